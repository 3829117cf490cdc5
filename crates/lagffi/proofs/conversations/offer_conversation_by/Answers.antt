use Rattle.lagffi.proofs.Common.{subst, sym, ℕ, PicksIndexes, OffersByNumber}
use Rattle.lagffi.proofs.conversations.offer_conversation_by.Goals as goal

pub offer_conversation-answer-requires : goal.offer_conversation-answer-requires
offer_conversation-answer-requires g c = record {
  usable = subst (λ f. PicksIndexes (λ conv count. g.F.Fn.pre f (conv, (count, tt)))
      (λ conv count place. g.F.Fn.post f (conv, (count, tt)) place)) (sym c.with_algorithm-system.ensures.algorithm) c.requires.usable;
}

pub returns : goal.returns
returns g c = let post = λ (f : g.row.F.Denot) (conv count place : ℕ). g.F.Fn.post f (conv, (count, tt)) place in
    let system = c.with_algorithm-system.result in
    let answer = c.offer_conversation-answer.result in
    let new = c.with_algorithm.result.state in
    subst (λ f. OffersByNumber (post f) c.args.agg c.args.conv c.args.kept.state answer new) c.with_algorithm-system.ensures.algorithm
    (subst (λ s. OffersByNumber (post system.algorithm) c.args.agg c.args.conv s answer new) c.with_algorithm-system.ensures.state
    (subst (λ t. OffersByNumber (post system.algorithm) c.args.agg c.args.conv system.state answer t) (sym c.with_algorithm.ensures.state)
    (c.offer_conversation-answer.ensures.offers, c.offer_conversation-answer.ensures.answers)))
