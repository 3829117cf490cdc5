use Rattle.dataplane.proofs.Best.{BestOf}
use Rattle.dataplane.proofs.active.choosing.active_aggregator.Given as goal

abbrev pub invariant-loop-number : goal.invariant-loop-number
invariant-loop-number g l = BestOf l.now l.system.state l.number l.best
