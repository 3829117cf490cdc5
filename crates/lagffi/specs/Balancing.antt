-- What a program in C is told of the next move (profile).
use Rattle.std.specs.Prelude.{ℕ, true, false, Option, None, Some}
use Rattle.dataplane.specs.declared.balance.moves.Move.{Move}
use Rattle.lagffi.specs.declared.balancing.LagMove.{LagMove}

-- refused with this number; with 0, that there is no move
abbrev pub move_refused : ℕ → LagMove
move_refused why = record { status = why; is = false; conversation = 0; port = 0 }

-- this move, or that there is none
abbrev pub move_of : Option Move → LagMove
move_of (Some m) = record { status = 0; is = true; conversation = m.conversation; port = m.port }
move_of None = move_refused 0
