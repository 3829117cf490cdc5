use Rattle.lagtool_capture.proofs.Common.{drop, ◌≡◌, tenths_up_to}
use Rattle.lagtool_capture.proofs.gaps.tenths_up_to.Given as goal

abbrev pub invariant-loop-tenths : goal.invariant-loop-tenths
invariant-loop-tenths l = tenths_up_to l.tenths l.left (drop l.tenths l.counts) ≡ tenths_up_to 0 l.wanted l.counts
