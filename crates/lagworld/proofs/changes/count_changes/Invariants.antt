use Rattle.lagworld.proofs.Common.{drop, map, take, ◌++◌, ◌≡◌, change_counted}
use Rattle.lagworld.proofs.changes.count_changes.Given as goal

abbrev pub invariant-loop-index : goal.invariant-loop-index
invariant-loop-index g l = l.histories.items ≡ map (change_counted l.system.state) (take l.index l.initial.histories.items)
    ++ drop l.index l.initial.histories.items
