use Rattle.lagffi.proofs.Common.{◌≡◌}
use Rattle.lagffi.specs.Ticking.{TicksInTurn}
use Rattle.lagffi.proofs.calls.tick_times.Given as goal

abbrev pub invariant-loop-tick : goal.invariant-loop-tick
invariant-loop-tick g l = record {
  ticked : TicksInTurn (λ conv count place. g.F.Fn.post l.initial.system.algorithm (conv, (count, tt)) place) l._tick l.initial.system.state l.system.state;
  algorithm : l.system.algorithm ≡ l.initial.system.algorithm;
}
