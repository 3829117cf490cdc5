use Rattle.lagffi.proofs.Common.{drop, map, ◌+◌, ◌≡◌, lag_port_config}
use Rattle.lagsystem.specs.First.{first_bad_port_number, configured_numbers}
use Rattle.lagffi.proofs.refusal.first_bad_port_number.Given as goal

abbrev pub invariant-loop-port : goal.invariant-loop-port
invariant-loop-port l = record {
  count : l.place ≡ l.port-index;
  rest : first_bad_port_number (l.place + 1) l.low (configured_numbers (map lag_port_config (drop l.port-index l.ports)))
      ≡ first_bad_port_number 1 0 (configured_numbers (map lag_port_config l.ports));
}
