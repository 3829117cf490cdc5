use Rattle.lagprogress.proofs.Carrying.{host_reached_has_carriers_up}
use Rattle.lagprogress.proofs.carriers_are_up.Goals as goal

pub returns : goal.returns
returns g c = λ one two. host_reached_has_carriers_up _
