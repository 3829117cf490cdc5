use Rattle.dataplane.proofs.Common.{◌≡◌, Runs, passing}
use Rattle.dataplane.proofs.warming.pass.Given as goal

abbrev pub invariant-loop-passed : goal.invariant-loop-passed
invariant-loop-passed g l = record {
  run : Runs (λ conv count place. g.F.Fn.post l.fn.system.algorithm (conv, (count, tt)) place) l.fn.system.state
      (passing l.saved l.ticks l.passed) l.system.state;
  algorithm : l.system.algorithm ≡ l.fn.system.algorithm;
}
