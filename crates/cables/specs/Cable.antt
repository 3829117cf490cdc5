-- Cables as contracts see them (profile).
use Rattle.std.specs.Prelude.{ℕ, Bool, false, ◌==◌, List, length, Option, None, Some}
use Rattle.cables.specs.declared.item.Item.{Item}

-- the cable is full: the number of items equals the limit
abbrev pub is_full : Option ℕ → List Item → Bool
is_full None items = false
is_full (Some limit) items = length items == limit

-- a `ListCable`: its items, the first to come off first, and whether a place is reserved
pub record ListValue : Type 0 where
  pub items : List Item
  pub reserved : Bool

-- a `RingCable`: its items, the first to come off first, and how many it can hold
pub record RingValue : Type 0 where
  pub items : List Item
  pub limit : ℕ
