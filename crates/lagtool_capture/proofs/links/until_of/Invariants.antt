use Rattle.lagtool_capture.proofs.Common.{drop, ◌≡◌, until_from, until_of}
use Rattle.lagtool_capture.proofs.links.until_of.Given as goal

abbrev pub invariant-loop-end : goal.invariant-loop-end
invariant-loop-end l = until_from l.until (drop l.end-index l.ends) ≡ until_of l.ends
