use Rattle.dataplane.proofs.Chosen.{stays}
use Rattle.dataplane.proofs.active.laws.the_active_aggregator_stays.Goals as goal

pub returns : goal.returns
returns c = stays
