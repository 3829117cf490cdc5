use Rattle.lagtool_jobs.proofs.Common.{string_bytes, ◌++◌, ◌≡◌, range_with_len, flat_map, aggregator_flows_text}
use Rattle.lagtool_jobs.proofs.flows.push_flows.Given as goal

abbrev pub invariant-loop-place : goal.invariant-loop-place
invariant-loop-place g l = string_bytes l.text ≡ string_bytes l.initial.text
    ++ flat_map (aggregator_flows_text l.world.state l.system l.counts.conversations) (range_with_len 1 l.place)
