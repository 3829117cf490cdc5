use Rattle.lagbeside.proofs.Beside.{comes_up}
use Rattle.lagbeside.proofs.a_served_port_comes_up.Goals as goal

pub returns : goal.returns
returns g c = λ algorithm. comes_up (λ conv count place. g.F.Fn.post algorithm (conv, (count, tt)) place)
