-- A cable of either kind, for contracts: the same as the cable inside it (profile).
use Rattle.std.specs.Prelude.{ℕ, Bool, true, List, Option, None, Some}
use Rattle.cables.specs.declared.item.Item.{Item}
use Rattle.cables.specs.declared.any.AnyCable.{AnyCable}
use Rattle.cables.specs.declared.any.AnyCable.TheVariants.{List as Unlimited, Ring}

-- its items, the first to come off first
abbrev pub any_items : AnyCable → List Item
any_items (Unlimited c) = c.items
any_items (Ring c) = c.items

-- how many items it can hold
abbrev pub any_limit : AnyCable → Option ℕ
any_limit (Unlimited c) = None
any_limit (Ring c) = Some c.limit

-- whether a place is reserved; one always is on a ring
abbrev pub any_reserved : AnyCable → Bool
any_reserved (Unlimited c) = c.reserved
any_reserved (Ring c) = true
