use Rattle.lagtool_jobs.proofs.Common.{length, ◌≡◌}
use Rattle.lagtool_jobs.proofs.passing.passed.Given as goal

abbrev pub invariant-loop-vector : goal.invariant-loop-vector
invariant-loop-vector l = length l.passed.items ≡ l.vector-index
