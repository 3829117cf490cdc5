use Rattle.lagbeside.proofs.Hearing.{is_noticed}
use Rattle.lagbeside.proofs.silence_is_noticed.Goals as goal

pub returns : goal.returns
returns g c = λ algorithm. is_noticed (λ conv count place. g.F.Fn.post algorithm (conv, (count, tt)) place)
