use Rattle.lagbeside.proofs.Joining.{none_begins_to_wait}
use Rattle.lagbeside.proofs.ports_that_hear_the_same_do_not_begin.Goals as goal

pub returns : goal.returns
returns g c = λ algorithm. none_begins_to_wait (λ conv count place. g.F.Fn.post algorithm (conv, (count, tt)) place)
