use Rattle.lagtool_jobs.proofs.Common.{length, map, take, vec_capacity, vec_len, ◌≡◌, ◌≤◌, any_items, any_limit, empty_link, first_link}
use Rattle.lagtool_jobs.proofs.directions.all_directions.Given as goal

abbrev pub invariant-loop-limit : goal.invariant-loop-limit
invariant-loop-limit l = record {
  same : map (first_link any_items any_limit (0, 0)) l.lines.items ≡ map (empty_link (0, 0)) (take l.limit-index l.limits);
  count : vec_len l.lines ≡ l.limit-index;
  room : length l.limits ≤ vec_capacity l.lines;
}
