-- The loop's invariant: the part of the octets that is gone from `rest` was accepted.
use Rattle.std.proofs.Common.{◌≡◌, List, ◌++◌, ℕ, length}
use Rattle.lagstreams.specs.Sinks.{WritesWhole}
use Rattle.lagstreams.proofs.sink.Sink.put.Given as goal

abbrev pub invariant-loop-rest : goal.invariant-loop-rest
invariant-loop-rest g l = (done : List ℕ) × (l.octets ≡ done ++ l.rest) × WritesWhole g.W.Write.contents l.initial.self l.self done

abbrev pub decreases-loop-rest : goal.decreases-loop-rest
decreases-loop-rest g l = length l.rest
