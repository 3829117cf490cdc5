use Rattle.lagffi.proofs.Common.{ap, subst, sym, ℕ, PicksIndexes, OffersFrameInActiveAggregator}
use Rattle.lagffi.proofs.carrying.offer_in_active_aggregator_by.Goals as goal

pub offer_in_active_aggregator-answer-requires : goal.offer_in_active_aggregator-answer-requires
offer_in_active_aggregator-answer-requires g c = record {
  usable = subst (λ f. PicksIndexes (λ conv count. g.F.Fn.pre f (conv, (count, tt)))
      (λ conv count place. g.F.Fn.post f (conv, (count, tt)) place)) (sym c.with_algorithm-system.ensures.algorithm) c.requires.usable;
}

pub returns : goal.returns
returns g c = let post = λ (f : g.row.F.Denot) (conv count place : ℕ). g.F.Fn.post f (conv, (count, tt)) place in
    let system = c.with_algorithm-system.result in
    let answer = c.offer_in_active_aggregator-answer.result in
    let new = c.with_algorithm.result.state in
    subst (λ f. OffersFrameInActiveAggregator (post f) c.args.agg c.args.frame.now c.args.kept.state answer new) c.with_algorithm-system.ensures.algorithm
    (subst (λ s. OffersFrameInActiveAggregator (post system.algorithm) c.args.agg c.args.frame.now s answer new) c.with_algorithm-system.ensures.state
    (subst (λ t. OffersFrameInActiveAggregator (post system.algorithm) c.args.agg c.args.frame.now system.state answer t) (sym c.with_algorithm.ensures.state)
    (record {
      held = λ e. ((c.offer_in_active_aggregator-answer.ensures.held e).0, ap (λ v. v.state) (c.offer_in_active_aggregator-answer.ensures.held e).1);
      offered = c.offer_in_active_aggregator-answer.ensures.answers;
      keeps = c.offer_in_active_aggregator-answer.ensures.keeps;
    })))
