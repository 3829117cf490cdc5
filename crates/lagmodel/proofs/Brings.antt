-- Moves that a receive allows if nothing came are allowed whatever came: only receiving, answering and being released
-- depend on it. So a receive of nothing may be regarded as a receive of what came.
use Rattle.lagmodel.proofs.Common.{IsSomeAnd, List, None, Option, [], ℕ, ◌∷◌, true≢false, Act, AllAllowed, LawfulMoves, Move, MoveAllowed}
use Rattle.lagmodel.proofs.Common.{PortAllowed, PortMove, view_after, ControlMessage, ModelCall, PortFacts, Receive, SystemSetup, View}
use native.Mathlib.Omega.{arith}

abbrev brought : ModelCall → Option ControlMessage
brought (Receive p pdu) = pdu
brought _ = None

there : (u : SystemSetup) (n : ℕ) (came : Option ControlMessage) (ports : ℕ → Option PortFacts) (p : ℕ) (m : PortMove) (o : Option PortFacts)
    → IsSomeAnd o (PortAllowed u (Receive n None) ports p m) → IsSomeAnd o (PortAllowed u (Receive n came) ports p m)
there u n came ports p m o h = grind arith

allowed : (u : SystemSetup) (n : ℕ) (came : Option ControlMessage) (v : View) (m : Move) → MoveAllowed u (Receive n None) v m
    → MoveAllowed u (Receive n came) v m
allowed u n came v m h = grind arith

all_allowed : (u : SystemSetup) (n : ℕ) (came : Option ControlMessage) (ms : List Move) (v : View) → AllAllowed u (Receive n None) v ms
    → AllAllowed u (Receive n came) v ms
all_allowed u n came [] v h = tt
all_allowed u n came (m ∷ ms) v h = (allowed u n came v m h.0, all_allowed u n came ms (view_after u m v) h.1)

pub moves_bring : (u : SystemSetup) (n : ℕ) (came : Option ControlMessage) (old new : View) (seen : List Act)
    → LawfulMoves u (Receive n None) old seen new → LawfulMoves u (Receive n came) old seen new
moves_bring u n came old new seen h = (h.0, all_allowed u n came h.0 old h.1, h.2, h.3)
