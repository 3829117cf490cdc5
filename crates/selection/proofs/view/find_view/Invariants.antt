use Rattle.selection.proofs.Common.{drop, ◌≡◌, find_view}
use Rattle.selection.proofs.view.find_view.Given as goal

-- the view is among those that are left
abbrev pub invariant-loop-view : goal.invariant-loop-view
invariant-loop-view l = find_view (drop l.view-index l.views) l.port ≡ find_view l.views l.port
