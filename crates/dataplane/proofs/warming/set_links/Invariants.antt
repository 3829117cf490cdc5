use Rattle.dataplane.proofs.Common.{map, take, ◌≡◌, Runs, link_up}
use Rattle.dataplane.proofs.warming.set_links.Given as goal

abbrev pub invariant-loop-config : goal.invariant-loop-config
invariant-loop-config g l = record {
  run : Runs (λ conv count place. g.F.Fn.post l.initial.system.algorithm (conv, (count, tt)) place) l.initial.system.state
      (map link_up (take l.config-index l.ports)) l.system.state;
  algorithm : l.system.algorithm ≡ l.initial.system.algorithm;
}
