use Rattle.lagsystem.proofs.Common.{drop, ◌+◌, ◌≡◌, configured_numbers, first_bad_port_number}
use Rattle.lagsystem.proofs.start.first_bad_port_number.Given as goal

abbrev pub invariant-loop-port : goal.invariant-loop-port
invariant-loop-port l = record {
  count : l.place ≡ l.port-index;
  rest : first_bad_port_number (l.place + 1) l.low (configured_numbers (drop l.port-index l.ports)) ≡ first_bad_port_number 1 0 (configured_numbers l.ports);
}
