use Rattle.lagmodel.proofs.AnyPeerWitness.{arrives_at_any_peer}
use Rattle.lagmodel.proofs.something_arrives_at_any_peer.Goals as goal

pub returns : goal.returns
returns c = arrives_at_any_peer
