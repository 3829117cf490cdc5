use Rattle.lagnetwork.proofs.NetworkWitness.{ends_meet_after_move}
use Rattle.lagnetwork.proofs.ends_meet_after_move.Goals as goal

pub returns : goal.returns
returns c = ends_meet_after_move
