use Rattle.std.proofs.Common.{refl, true}
use Rattle.lagpage.proofs.PieceLemmas.{ends}
use Rattle.lagpage.proofs.pieces.Pieces.end.Goals as goal

pub returns : goal.returns
returns c = ends c.args.self.now (record { reading = c.finish.new.self; is_ended = true }) c.if-self.false c.in_ok-finish.ensures refl
