use Rattle.lagworld.proofs.Common.{◌-◌, ◌≡◌, ◌≤◌, HalfTicks, half_state}
use Rattle.lagworld.proofs.Sides.{gives_of}
use Rattle.lagworld.proofs.half.Half.tick.Given as goal

abbrev pub invariant-loop-done : goal.invariant-loop-done
invariant-loop-done g l = record {
  within : l.done ≤ l.count;
  ticks : HalfTicks (gives_of g.F.Fn.post l.fn.self.system.algorithm) l.done (half_state l.fn.self) (half_state l.self);
  algorithm : l.self.system.algorithm ≡ l.fn.self.system.algorithm;
}

abbrev pub decreases-loop-done : goal.decreases-loop-done
decreases-loop-done g l = l.count - l.done
