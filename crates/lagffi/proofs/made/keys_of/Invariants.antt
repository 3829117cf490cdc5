use Rattle.lagffi.proofs.Common.{length, map, take, vec_capacity, vec_len, ◌≡◌, ◌≤◌, lag_key}
use Rattle.lagffi.proofs.made.keys_of.Given as goal

abbrev pub invariant-loop-key : goal.invariant-loop-key
invariant-loop-key l = record {
  same : l.found.items ≡ map lag_key (take l.key-index l.keys);
  count : vec_len l.found ≡ l.key-index;
  room : length l.keys ≤ vec_capacity l.found;
}
