use Rattle.dataplane.proofs.Searched.{NoneUpTo}
use Rattle.dataplane.proofs.active.offering.is_elsewhere.Given as goal

abbrev pub invariant-loop-number : goal.invariant-loop-number
invariant-loop-number g l = NoneUpTo l.system.state l.agg l.conv l.number
