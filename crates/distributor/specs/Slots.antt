-- The invariant of the slots of the conversations.
use Rattle.std.specs.Prelude.{ℕ, ◌*◌, ◌≡◌}
use Rattle.distributor.specs.declared.slots.Slots.{Slots}
use Rattle.distributor.specs.Chains.{IsFlagged, IsChained}

-- the slots are chained: each that is not free is in the chain of its port, and in no other
abbrev pub AreChained : Slots → Type 0
AreChained s = IsChained s.count s.states.items s.next.items s.prev.items

-- the flags of each chain with a Wanted or a Flushing conversation are set
abbrev pub AreFlagged : Slots → Type 0
AreFlagged s = IsFlagged s.states.items s.may_want.items s.may_flush.items

-- the slots of a table with this many aggregators, and this many conversations in each
pub record SlotsFit (aggs conversations : ℕ) (s : Slots) : Type 0 where
  pub count : s.count ≡ aggs * conversations
  pub chained : AreChained s
  pub flagged : AreFlagged s
