use Rattle.dataplane.proofs.Common.{take, ◌≡◌, flat_map, Runs, heard_of}
use Rattle.dataplane.proofs.warming.hear.Given as goal

abbrev pub invariant-loop-one : goal.invariant-loop-one
invariant-loop-one g l = record {
  run : Runs (λ conv count place. g.F.Fn.post l.initial.system.algorithm (conv, (count, tt)) place) l.initial.system.state
      (flat_map (heard_of l.moment l.saved) (take l.one-index l.saved)) l.system.state;
  algorithm : l.system.algorithm ≡ l.initial.system.algorithm;
}
