use Rattle.lagtool_capture.proofs.Common.{drop, ◌≡◌, number_from, number_of}
use Rattle.lagtool_capture.proofs.names.number_of.Given as goal

abbrev pub invariant-loop-index : goal.invariant-loop-index
invariant-loop-index l = number_from l.index (drop l.index l.names) l.identity ≡ number_of l.names l.identity
