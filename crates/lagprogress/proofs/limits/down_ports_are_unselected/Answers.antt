use Rattle.lagprogress.proofs.LimitLemmas.{each_reached_has_down_unselected}
use Rattle.lagprogress.proofs.limits.down_ports_are_unselected.Goals as goal

pub returns : goal.returns
returns g c = λ one two. each_reached_has_down_unselected _
