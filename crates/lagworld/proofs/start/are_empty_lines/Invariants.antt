use Rattle.lagworld.proofs.Common.{drop, ◌≡◌, list_all, has_empty_directions}
use Rattle.lagworld.proofs.start.are_empty_lines.Given as goal

abbrev pub invariant-loop-directions : goal.invariant-loop-directions
invariant-loop-directions g l = list_all (has_empty_directions g.C.Cable.items) l.lines ≡ list_all (has_empty_directions g.C.Cable.items)
    (drop l.directions-index l.lines)
