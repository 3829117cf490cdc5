use Rattle.selection.proofs.Common.{take_all, has_chosen}
use Rattle.selection.proofs.Rising.{rising-filter}
use Rattle.selection.proofs.aggregators.Aggregators.members.Goals as goal

pub returns-after-loop-view-clause-ascending : goal.returns-after-loop-view-clause-ascending
returns-after-loop-view-clause-ascending c =
    let up = rising-filter (λ w. has_chosen c.args.agg w.choice) c.args.views.now c.requires.ascending in
    rw (c.loop-view.invariant.so_far, take_all _ _ c.loop-view-test.false) up
