-- The spread of conversations over ports (profile).
use Rattle.std.specs.Prelude.{ℕ, ◌+◌, ◌<◌, ◌≤◌, eqb, cond, List, length, get_or, sum_by, Contains}
use Rattle.dataplane.specs.declared.balance.moves.Carried.{Carried}
use Rattle.dataplane.specs.declared.balance.moves.Move.{Move}

-- the sum of the loads of the conversations on a port
abbrev pub load_on : ℕ → List Carried → ℕ
load_on port carried = sum_by (λ one. cond (eqb one.port port) one.load 0) carried

-- a conversation; on no port and of no load past the end
abbrev pub conversation_at : List Carried → ℕ → Carried
conversation_at carried conversation = get_or carried conversation (record { port = 0; load = 0 })

-- The move is from a port with the most load of these to one with the least, of a conversation that makes their loads more
-- alike: its load is not 0 and less than the difference.
pub record IsMove (ports : List ℕ) (carried : List Carried) (m : Move) : Type 0 where
  pub there : m.conversation < length carried
  pub from : Contains ports (conversation_at carried m.conversation).port
  pub most : (p : ℕ) → Contains ports p → load_on p carried ≤ load_on (conversation_at carried m.conversation).port carried
  pub to : Contains ports m.port
  pub least : (p : ℕ) → Contains ports p → load_on m.port carried ≤ load_on p carried
  pub loaded : 0 < (conversation_at carried m.conversation).load
  pub gains : load_on m.port carried + (conversation_at carried m.conversation).load < load_on (conversation_at carried m.conversation).port carried
