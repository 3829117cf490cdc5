use Rattle.dataplane.proofs.Chosen.{ends_alike}
use Rattle.dataplane.proofs.active.laws.both_ends_choose_alike.Goals as goal

pub returns : goal.returns
returns c = ends_alike
