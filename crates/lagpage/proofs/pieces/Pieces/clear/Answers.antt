use Rattle.std.proofs.Common.{refl}
use Rattle.lagpage.proofs.PieceLemmas.{handed_out}
use Rattle.lagpage.proofs.pieces.Pieces.clear.Goals as goal

pub returns : goal.returns
returns c = handed_out c.args.self.now (record { reading = c.clear.new.self; is_ended = c.args.self.now.is_ended }) refl c.clear.ensures
