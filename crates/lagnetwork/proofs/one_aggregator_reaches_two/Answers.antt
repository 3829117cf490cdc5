use Rattle.lagnetwork.proofs.NetworkWitness.{one_aggregator_reaches_two}
use Rattle.lagnetwork.proofs.one_aggregator_reaches_two.Goals as goal

pub returns : goal.returns
returns c = one_aggregator_reaches_two
