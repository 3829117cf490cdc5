use Rattle.lagffi.proofs.Common.{length, map, take, vec_capacity, vec_len, ◌≡◌, ◌≤◌, lag_port_config}
use Rattle.lagffi.proofs.made.ports_of.Given as goal

abbrev pub invariant-loop-port : goal.invariant-loop-port
invariant-loop-port l = record {
  same : l.found.items ≡ map lag_port_config (take l.port-index l.ports);
  count : vec_len l.found ≡ l.port-index;
  room : length l.ports ≤ vec_capacity l.found;
}
