use Rattle.lagworld.proofs.Common.{length, map, take, vec_capacity, vec_len, ◌≡◌, ◌≤◌, first_history}
use Rattle.lagworld.proofs.start.first_histories.Given as goal

abbrev pub invariant-loop-port : goal.invariant-loop-port
invariant-loop-port l = record {
  same : l.histories.items ≡ map (first_history l.system) (take l.port-index l.ports);
  count : vec_len l.histories ≡ l.port-index;
  room : length l.ports ≤ vec_capacity l.histories;
}
