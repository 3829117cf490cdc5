use Rattle.lagmodel.proofs.TruthfulPeer.{names_truthful_peer}
use Rattle.lagmodel.proofs.a_truthful_peer_is_named_as_it_is.Goals as goal

pub returns : goal.returns
returns c = names_truthful_peer
