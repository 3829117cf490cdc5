use Rattle.dataplane.proofs.Common.{◌≡◌, Runs, occupied}
use Rattle.dataplane.proofs.warming.occupy.Given as goal

abbrev pub invariant-loop-key : goal.invariant-loop-key
invariant-loop-key g l = record {
  run : Runs (λ conv count place. g.F.Fn.post l.initial.system.algorithm (conv, (count, tt)) place) l.initial.system.state
      (occupied l.saved l.keys l.ports l.key-index) l.system.state;
  algorithm : l.system.algorithm ≡ l.initial.system.algorithm;
  number : l.agg ≡ l.key-index;
}
