use Rattle.lagbeside.proofs.Beside.{stays_up}
use Rattle.lagbeside.proofs.a_served_port_stays_up.Goals as goal

pub returns : goal.returns
returns g c = λ algorithm. stays_up (λ conv count place. g.F.Fn.post algorithm (conv, (count, tt)) place)
