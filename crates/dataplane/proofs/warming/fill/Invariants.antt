use Rattle.dataplane.proofs.Common.{take, ◌≡◌, flat_map, Runs, filled_by}
use Rattle.dataplane.proofs.warming.fill.Given as goal

abbrev pub invariant-loop-config : goal.invariant-loop-config
invariant-loop-config g l = record {
  run : Runs (λ conv count place. g.F.Fn.post l.initial.system.algorithm (conv, (count, tt)) place) l.initial.system.state
      (flat_map (filled_by l.saved l.below l.key l.agg l.ports) (take l.config-index l.ports)) l.system.state;
  algorithm : l.system.algorithm ≡ l.initial.system.algorithm;
}
