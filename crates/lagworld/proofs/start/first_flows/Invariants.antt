use Rattle.lagworld.proofs.Common.{map, replicate, vec_capacity, vec_len, ◌-◌, ◌≡◌, ◌≤◌, flow_value, first_aggregator_flows}
use Rattle.lagworld.proofs.start.first_flows.Given as goal

abbrev pub invariant-loop-made : goal.invariant-loop-made
invariant-loop-made l = record {
  within : l.made ≤ l.count;
  same : map (λ xs. map flow_value xs.items) l.rows.items ≡ replicate l.made (first_aggregator_flows l.conversations);
  count : vec_len l.rows ≡ l.made;
  room : l.count ≤ vec_capacity l.rows;
}

abbrev pub decreases-loop-made : goal.decreases-loop-made
decreases-loop-made l = l.count - l.made
