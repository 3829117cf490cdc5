use Rattle.lagworld.proofs.Common.{map, replicate, vec_capacity, vec_len, ◌-◌, ◌≡◌, ◌≤◌, flow_value, empty_flow}
use Rattle.lagworld.proofs.start.first_aggregator_flows.Given as goal

abbrev pub invariant-loop-made : goal.invariant-loop-made
invariant-loop-made l = record {
  within : l.made ≤ l.count;
  same : map flow_value l.conversations.items ≡ replicate l.made empty_flow;
  count : vec_len l.conversations ≡ l.made;
  room : l.count ≤ vec_capacity l.conversations;
}

abbrev pub decreases-loop-made : goal.decreases-loop-made
decreases-loop-made l = l.count - l.made
