use Rattle.lagtool_jobs.proofs.Common.{arith}
use Rattle.lagtool_jobs.proofs.ReplayLemmas.{entries_grow}
use Rattle.lagtool_jobs.proofs.replaying.push_entries.Goals as goal

pub loop-index-preserved : goal.loop-index-preserved
loop-index-preserved c =
    entries_grow _ _ _ c.loop-index.index c.args.events.now c.args.replies.now c.index-events-index.result _ c.loop-index-test.true
    (omega (arith, c.requires, c.loop-index-test.true)) c.loop-index.invariant c.in_ok-push_entry.ensures c.index-events-index.is
