use Rattle.lagtool_jobs.proofs.Common.{ap, arith, length, refl, string_bytes, sym, ◌+◌, ◌<◌, ◌∙◌, aggregator_flows_text}
use Rattle.lagtool_jobs.proofs.OfferedLemmas.{row_skipped, unset}
use Rattle.lagtool_jobs.proofs.ReplayLemmas.{appended_both, range_more}
use Rattle.lagtool_jobs.proofs.flows.push_flows.Goals as goal
use Rattle.lagtool_jobs.proofs.flows.push_flows.Goals.{then-index+in_ok-push_aggregator_flows, else-index}

pub loop-place-preserved : goal.loop-place-preserved
loop-place-preserved g c = let i = c.loop-place.place in
    let s = c.args.system in
    let n = c.args.counts.conversations in
    let j = c.args.world.now.state in
    let offers = c.in_ok-offers.offers.items in
    elim c.if-index.branch [
      | then-index+in_ok-push_aggregator_flows w ↦ ap string_bytes w.text-is
          ∙ appended_both _ _ _ _ _ _ c.loop-place.invariant w.in_ok-push_aggregator_flows.ensures
          (range_more (aggregator_flows_text j s n) 1 i (i + 1) (i + 1) (omega arith) refl)
      | else-index w ↦ (
          let inside : i + 1 < length offers = omega (arith, c.in_ok-offers.ensures.length, c.loop-place-test.true) in
          let off = unset offers c.from.result (i + 1) c.index.result.now (omega (arith, c.from.ensures)) inside
          c.index.ensures w.if-index.false in
          row_skipped _ _ _ j s n i c.loop-place.invariant (ap string_bytes w.text-is)
          (c.requires s (i + 1) (sym (c.in_ok-offers.ensures.flags (i + 1) inside) ∙ off)))
    ]
