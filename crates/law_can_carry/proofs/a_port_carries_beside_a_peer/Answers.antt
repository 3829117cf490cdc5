use Rattle.law_can_carry.proofs.BesidePeers.{carries_beside_peer}
use Rattle.law_can_carry.proofs.a_port_carries_beside_a_peer.Goals as goal

pub returns : goal.returns
returns g c = λ algorithm. carries_beside_peer (λ conv count place. g.F.Fn.post algorithm (conv, (count, tt)) place)
