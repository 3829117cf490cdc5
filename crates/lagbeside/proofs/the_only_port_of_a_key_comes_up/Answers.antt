use Rattle.lagbeside.proofs.Alone.{comes_up_alone}
use Rattle.lagbeside.proofs.the_only_port_of_a_key_comes_up.Goals as goal

pub returns : goal.returns
returns g c = λ algorithm. comes_up_alone (λ conv count place. g.F.Fn.post algorithm (conv, (count, tt)) place)
