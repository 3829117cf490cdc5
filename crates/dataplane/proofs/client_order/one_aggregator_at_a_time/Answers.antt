use Rattle.dataplane.proofs.Common.{refl}
use Rattle.dataplane.proofs.Staying.{kept, sent, behind}
use Rattle.dataplane.proofs.client_order.one_aggregator_at_a_time.Goals as goal

pub returns-clause-first : goal.returns-clause-first
returns-clause-first c = λ u g h k a b. absurd (a refl)

pub returns-clause-kept : goal.returns-clause-kept
returns-clause-kept c = kept

pub returns-clause-sent : goal.returns-clause-sent
returns-clause-sent c = sent

pub returns-clause-behind : goal.returns-clause-behind
returns-clause-behind c = behind
