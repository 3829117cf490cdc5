use Rattle.dataplane.proofs.Kept.{left, probed}
use Rattle.dataplane.proofs.active.laws.leaving_and_probing_keep_one_aggregator.Goals as goal

pub returns-clause-left : goal.returns-clause-left
returns-clause-left c = left

pub returns-clause-probed : goal.returns-clause-probed
returns-clause-probed c = probed
