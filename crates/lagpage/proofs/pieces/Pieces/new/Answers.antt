use Rattle.lagpage.proofs.PieceLemmas.{begins}
use Rattle.lagpage.proofs.pieces.Pieces.new.Goals as goal

pub returns : goal.returns
returns c = begins c.args.settings c.new.result c.new.ensures
