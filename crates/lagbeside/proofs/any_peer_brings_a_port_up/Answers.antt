use Rattle.lagbeside.proofs.First.{carries_beside}
use Rattle.lagbeside.proofs.any_peer_brings_a_port_up.Goals as goal

pub returns : goal.returns
returns g c = λ algorithm. carries_beside (λ conv count place. g.F.Fn.post algorithm (conv, (count, tt)) place)
