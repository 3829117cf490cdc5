use Rattle.dataplane.proofs.Common.{[], replicate, ◌≡◌, buffer}
use Rattle.dataplane.proofs.holding.rings.empty_rings.Given as goal

abbrev pub invariant-loop : goal.invariant-loop
invariant-loop g l = l.rings.items ≡ replicate l.counter (buffer [] l.places)
