use Rattle.lagprogress.proofs.ArrivingLemmas.{deliver_hands_up, offer_gets_port}
use Rattle.lagprogress.proofs.arriving.frames_pass_cables.Goals as goal

pub returns-clause-offered : goal.returns-clause-offered
returns-clause-offered g c = λ one two. offer_gets_port _

pub returns-clause-delivered : goal.returns-clause-delivered
returns-clause-delivered g c = λ one two. deliver_hands_up _
