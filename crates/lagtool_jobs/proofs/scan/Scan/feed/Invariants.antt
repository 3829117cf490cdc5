-- The loop's invariant: the part of the piece that is gone from `rest` was read.
use Rattle.lagtool_jobs.proofs.Common.{List, length, ℕ, ◌++◌, ◌+◌, ◌≡◌, ◌≤◌, ReadsOctets}
use Rattle.lagtool_jobs.proofs.scan.Scan.feed.Given as goal

abbrev pub invariant-loop-n : goal.invariant-loop-n
invariant-loop-n l = (done : List ℕ) × (l.piece ≡ done ++ l.rest) × ReadsOctets l.initial.self l.self done
    × (l.self.lines + length l.rest ≤ l.initial.self.lines + length l.piece)

abbrev pub decreases-loop-n : goal.decreases-loop-n
decreases-loop-n l = length l.rest
