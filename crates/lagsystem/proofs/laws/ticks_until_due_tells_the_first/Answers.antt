use Rattle.lagsystem.proofs.Soonest.{tells_the_first}
use Rattle.lagsystem.proofs.laws.ticks_until_due_tells_the_first.Goals as goal

pub returns : goal.returns
returns c = tells_the_first
