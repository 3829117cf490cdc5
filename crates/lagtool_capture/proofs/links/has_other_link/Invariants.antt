use Rattle.lagtool_capture.proofs.Common.{drop, ◌≡◌, has_other_link}
use Rattle.lagtool_capture.proofs.links.has_other_link.Given as goal

abbrev pub invariant-loop-other : goal.invariant-loop-other
invariant-loop-other l = has_other_link (drop l.other-index l.all) l.near l.far ≡ has_other_link l.all l.near l.far
