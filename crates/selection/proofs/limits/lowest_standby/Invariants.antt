use Rattle.selection.proofs.Common.{None, drop, ◌≡◌, lowest_standby_from}
use Rattle.selection.proofs.limits.lowest_standby.Given as goal

-- the lowest is the best so far, or among those that are left
abbrev pub invariant-loop-view : goal.invariant-loop-view
invariant-loop-view l = record {
  place : l.index ≡ l.view-index;
  lowest : lowest_standby_from l.agg l.index l.best (drop l.view-index l.views) ≡ lowest_standby_from l.agg 0 None l.views;
}
