use Rattle.lagbeside.proofs.Selecting.{shares_aggregator}
use Rattle.lagbeside.proofs.ports_share_aggregators.Goals as goal

pub returns : goal.returns
returns c = shares_aggregator
