use Rattle.lagtool_jobs.proofs.Common.{arith, refl, ◌+◌, flow_line, side_of, flow_of_system}
use Rattle.lagtool_jobs.proofs.ReplayLemmas.{appended_both, range_more}
use Rattle.lagtool_jobs.proofs.flows.push_aggregator_flows.Goals as goal

pub loop-conv-preserved : goal.loop-conv-preserved
loop-conv-preserved g c = let k = c.loop-conv.conv in
    let s = c.args.system in
    let agg = c.args.agg in
    let j = c.args.world.now.state in
    appended_both _ _ _ _ _ _ c.loop-conv.invariant c.in_ok-push_flow.ensures
    (range_more (λ conv. flow_line s agg conv (flow_of_system (side_of s) agg conv j)) 0 k (k + 1) k (omega arith) refl)
