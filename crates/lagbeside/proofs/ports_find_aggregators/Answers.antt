use Rattle.lagbeside.proofs.Selecting.{finds_aggregator}
use Rattle.lagbeside.proofs.ports_find_aggregators.Goals as goal

pub returns : goal.returns
returns c = finds_aggregator
