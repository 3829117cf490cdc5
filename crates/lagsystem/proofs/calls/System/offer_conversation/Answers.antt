use Rattle.lagsystem.proofs.Common.{subst, sym, PicksIndexes, inner_state, SystemValue}
use Rattle.lagsystem.proofs.AssigningLemmas.{offers_promise, offers_sound}
use Rattle.lagsystem.proofs.calls.System.offer_conversation.Goals as goal

pub invariant_of-self : goal.invariant_of-self
invariant_of-self g c =
    offers_sound (λ conv count place. g.F.Fn.post c.self.inside.inner.distributor.algorithm (conv, (count, tt)) place) c.args.agg
    c.args.conv (inner_state c.self.inside.inner) c.offer_conversation.result (inner_state c.offer_conversation.new.self)
    c.offer_conversation.ensures.offers c.self.invariant

pub returns-clause-offers : goal.returns-clause-offers
returns-clause-offers g c = rw (← c.self.view_is) c.offer_conversation.ensures.offers

pub returns-clause-answers : goal.returns-clause-answers
returns-clause-answers g c = rw (← c.self.view_is)
    (offers_promise (λ conv count place. g.F.Fn.post c.self.inside.inner.distributor.algorithm (conv, (count, tt)) place) c.args.agg
    c.args.conv (inner_state c.self.inside.inner) c.offer_conversation.result (inner_state c.offer_conversation.new.self)
    c.offer_conversation.ensures.offers c.self.invariant)

pub offer_conversation-requires-clause-usable : goal.offer_conversation-requires-clause-usable
offer_conversation-requires-clause-usable g c =
    subst (λ (w : SystemValue g.row.F.Denot). PicksIndexes (λ conv count. g.F.Fn.pre w.algorithm (conv, (count, tt)))
    (λ conv count place. g.F.Fn.post w.algorithm (conv, (count, tt)) place)) (sym c.self.view_is) c.requires.usable
