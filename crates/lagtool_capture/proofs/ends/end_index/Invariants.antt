use Rattle.lagtool_capture.proofs.Common.{drop, ◌≡◌, end_index, end_index_from}
use Rattle.lagtool_capture.proofs.ends.end_index.Given as goal

abbrev pub invariant-loop-index : goal.invariant-loop-index
invariant-loop-index l = end_index_from l.index (drop l.index l.ends) l.sender ≡ end_index l.ends l.sender
