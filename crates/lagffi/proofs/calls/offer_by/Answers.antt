use Rattle.lagffi.proofs.Common.{subst, sym, PicksIndexes}
use Rattle.lagffi.proofs.calls.offer_by.Goals as goal

pub offer-answer-requires : goal.offer-answer-requires
offer-answer-requires g c = record {
  usable = subst (λ f. PicksIndexes (λ conv count. g.F.Fn.pre f (conv, (count, tt)))
      (λ conv count place. g.F.Fn.post f (conv, (count, tt)) place)) (sym c.with_algorithm-system.ensures.algorithm) c.requires.usable;
}
