use Rattle.lagbeside.proofs.Never.{never_alone}
use Rattle.lagbeside.proofs.no_port_carries_unanswered.Goals as goal

pub returns : goal.returns
returns g c = λ algorithm. never_alone (λ conv count place. g.F.Fn.post algorithm (conv, (count, tt)) place)
