use Rattle.lagsystem.proofs.OneStart.{one_first}
use Rattle.lagsystem.proofs.laws.first_state_is_one.Goals as goal

pub returns : goal.returns
returns c = one_first
