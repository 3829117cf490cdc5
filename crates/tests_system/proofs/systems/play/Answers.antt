use Rattle.std.proofs.Common.{sym, subst}
use Rattle.distributor.specs.Calls.{PicksIndexes}
use Rattle.tests_system.proofs.systems.play.Goals as goal

-- the system has the algorithm that it had at first
pub step-requires : goal.step-requires
step-requires g c = record {
  usable = subst (λ f. PicksIndexes (λ conv count. g.F.Fn.pre f (conv, (count, tt)))
      (λ conv count place. g.F.Fn.post f (conv, (count, tt)) place)) (sym c.loop-place.invariant) c.requires.usable;
}
