use Rattle.lagmodel.proofs.AnyPeer.{counts_with_any_peer, each_call_is_one, order_with_any_peer, partner_with_any_peer, took_from_any_peer}
use Rattle.lagmodel.proofs.order_with_any_peer.Goals as goal

pub returns-clause-one_partner : goal.returns-clause-one_partner
returns-clause-one_partner c = partner_with_any_peer

pub returns-clause-took_synchronized : goal.returns-clause-took_synchronized
returns-clause-took_synchronized c = took_from_any_peer

pub returns-clause-in_order : goal.returns-clause-in_order
returns-clause-in_order c = order_with_any_peer

pub returns-clause-each_call : goal.returns-clause-each_call
returns-clause-each_call c = each_call_is_one

pub returns-clause-counts_from_zero : goal.returns-clause-counts_from_zero
returns-clause-counts_from_zero c = counts_with_any_peer
