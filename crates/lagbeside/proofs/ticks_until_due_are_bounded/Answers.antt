use Rattle.lagbeside.proofs.Told.{is_bounded}
use Rattle.lagbeside.proofs.ticks_until_due_are_bounded.Goals as goal

pub returns : goal.returns
returns c = is_bounded
