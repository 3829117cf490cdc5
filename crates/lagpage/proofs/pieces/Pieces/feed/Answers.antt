use Rattle.std.proofs.Common.{refl, sym}
use Rattle.lagpage.proofs.PieceLemmas.{fed_read, fed_refused}
use Rattle.lagpage.proofs.pieces.Pieces.feed.Goals as goal

pub returns-then-not-is_read_on : goal.returns-then-not-is_read_on
returns-then-not-is_read_on c = fed_refused c.args.piece.now c.args.self.now c.if-self.false (sym c.if-not-is_read_on.ensures)

pub returns : goal.returns
returns c =
    fed_read c.args.piece.now c.args.self.now (record { reading = c.feed.new.self; is_ended = c.args.self.now.is_ended }) c.if-self.false
    (sym c.if-not-is_read_on.ensures) refl c.in_ok-feed.ensures
