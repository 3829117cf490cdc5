use Rattle.lagtool_capture.proofs.Common.{drop, ◌≡◌, far_end, far_from}
use Rattle.lagtool_capture.proofs.links.far_end.Given as goal

abbrev pub invariant-loop-other : goal.invariant-loop-other
invariant-loop-other l = far_from l.end l.far (drop l.other-index l.ends) ≡ far_end l.ends l.end
