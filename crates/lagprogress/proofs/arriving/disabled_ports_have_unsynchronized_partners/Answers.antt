use Rattle.lagprogress.proofs.Carrying.{host_reached_has_unsynchronized}
use Rattle.lagprogress.proofs.arriving.disabled_ports_have_unsynchronized_partners.Goals as goal

pub returns : goal.returns
returns g c = λ one two. host_reached_has_unsynchronized _
