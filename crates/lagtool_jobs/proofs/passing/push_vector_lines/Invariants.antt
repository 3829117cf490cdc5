use Rattle.lagtool_jobs.proofs.Common.{string_bytes, take, ◌++◌, ◌≡◌, vector_lines_from}
use Rattle.lagtool_jobs.proofs.passing.push_vector_lines.Given as goal

abbrev pub invariant-loop-index : goal.invariant-loop-index
invariant-loop-index l = string_bytes l.text ≡ string_bytes l.initial.text ++ vector_lines_from 1 (take l.index l.passed)
