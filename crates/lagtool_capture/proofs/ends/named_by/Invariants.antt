use Rattle.lagtool_capture.proofs.Common.{drop, ◌≡◌, named_by}
use Rattle.lagtool_capture.proofs.ends.named_by.Given as goal

abbrev pub invariant-loop-other : goal.invariant-loop-other
invariant-loop-other l = named_by (drop l.other-index l.ends) l.end ≡ named_by l.ends l.end
