use Rattle.law_can_carry.proofs.Carrying.{comes_to_carry}
use Rattle.law_can_carry.proofs.a_port_comes_to_carry.Goals as goal

pub returns : goal.returns
returns g c = λ algorithm. comes_to_carry (λ conv count place. g.F.Fn.post algorithm (conv, (count, tt)) place)
