use Rattle.lagprogress.proofs.Halves.{each_is_calls}
use Rattle.lagprogress.proofs.each_event_is_calls.Goals as goal

pub returns : goal.returns
returns g c = λ one two. each_is_calls _
