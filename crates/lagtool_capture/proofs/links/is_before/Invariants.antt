use Rattle.lagtool_capture.proofs.Common.{drop, ◌≡◌, is_before}
use Rattle.lagtool_capture.proofs.links.is_before.Given as goal

abbrev pub invariant-loop-one : goal.invariant-loop-one
invariant-loop-one l = is_before (drop l.one-index l.ends) l.end l.other ≡ is_before l.ends l.end l.other
