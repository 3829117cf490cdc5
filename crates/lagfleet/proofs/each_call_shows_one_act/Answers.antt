use Rattle.lagfleet.proofs.Doings.{one_act}
use Rattle.lagfleet.proofs.each_call_shows_one_act.Goals as goal

pub returns : goal.returns
returns c = one_act
