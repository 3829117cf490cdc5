use Rattle.dataplane.proofs.Common.{arith, ◌+◌, ◌≤◌, aggregator_numbered}
use Rattle.dataplane.proofs.Best.{best_carries, one_better}
use Rattle.dataplane.proofs.active.choosing.active_aggregator.Goals as goal

pub loop-number-preserved : goal.loop-number-preserved
loop-number-preserved g c = grind (arith, aggregator_numbered, one_better)

pub returns : goal.returns
returns g c = grind (arith, best_carries)
