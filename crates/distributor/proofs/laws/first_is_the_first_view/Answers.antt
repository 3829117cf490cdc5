use Rattle.distributor.proofs.MoveLemmas.{first_flows}
use Rattle.distributor.proofs.laws.first_is_the_first_view.Goals as goal

pub returns : goal.returns
returns c = first_flows
