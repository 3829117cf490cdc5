use Rattle.lagworld.specs.Sound.{both_algorithms}
use Rattle.law_can_come_up.proofs.Together.{two_come_up}
use Rattle.law_can_come_up.proofs.two_systems_come_up.Goals as goal

pub returns : goal.returns
returns g c = λ one two. two_come_up (both_algorithms (λ conv count place. g.F.Fn.post one (conv, (count, tt)) place)
    (λ conv count place. g.F.Fn.post two (conv, (count, tt)) place))
