use Rattle.lagbeside.proofs.Knowing.{is_known}
use Rattle.lagbeside.proofs.what_was_heard_is_known.Goals as goal

pub returns : goal.returns
returns g c = λ algorithm. is_known (λ conv count place. g.F.Fn.post algorithm (conv, (count, tt)) place)
