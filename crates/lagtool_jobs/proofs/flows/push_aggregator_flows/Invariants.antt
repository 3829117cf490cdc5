use Rattle.lagtool_jobs.proofs.Common.{string_bytes, ◌++◌, ◌≡◌, range_with_len, flat_map, flow_line, side_of, flow_of_system}
use Rattle.lagtool_jobs.proofs.flows.push_aggregator_flows.Given as goal

abbrev pub invariant-loop-conv : goal.invariant-loop-conv
invariant-loop-conv g l = string_bytes l.text ≡ string_bytes l.initial.text
    ++ flat_map (λ conv. flow_line l.system l.agg conv (flow_of_system (side_of l.system) l.agg conv l.world.state))
    (range_with_len 0 l.conv)
