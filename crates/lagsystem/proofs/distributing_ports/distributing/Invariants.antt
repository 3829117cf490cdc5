use Rattle.lagsystem.proofs.Common.{filter, length, map, take, ◌≡◌, ◌≤◌, SystemPort, distributes_in}
use Rattle.lagsystem.proofs.distributing_ports.distributing.Given as goal

abbrev pub invariant-loop-system_port : goal.invariant-loop-system_port
invariant-loop-system_port l = record {
  so_far : l.found.items ≡ map (λ (s : SystemPort). s.number) (filter (distributes_in l.agg) (take l.system_port-index l.system_ports));
  few : length l.found.items ≤ l.system_port-index;
}
