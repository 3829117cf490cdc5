-- Places that are reserved for what a system sends, on cables and in lists of serial numbers. They are no part of a
-- world as contracts see it.
use Rattle.std.specs.Prelude.{ℕ, ◌<◌, Bool, IsTrue, IfSome, List, map, Option, Some, None, slice_get, vec_capacity, vec_len}
use Rattle.std.specs.Global.{Vec}
use Rattle.cables.specs.declared.item.Item.{Item}
use Rattle.lagmodel.specs.World.{Side}
use Rattle.lagworld.specs.declared.link.Link.{Link as Cabled}
use Rattle.lagworld.specs.declared.histories.Flow.{Flow}
use Rattle.lagworld.specs.State.{FlowValue, by_side, link_index, element_numbered}
use Rattle.lagworld.specs.Inner.{link_states, flow_value}

-- a place is reserved on the cable, in the direction away from a system
abbrev pub is_reserved : {C : Type 0} → (C → Bool) → Side → Cabled C → Bool
is_reserved reserved s l = by_side s (reserved l.to_two) (reserved l.to_one)

-- a place is reserved for what system s sends, on the cable at this index, if there is one
abbrev pub IsReservedAt : {C : Type 0} → (C → Bool) → Side → Option ℕ → List (Cabled C) → Type 0
IsReservedAt reserved s None ls = Unit {0}
IsReservedAt reserved s (Some i) ls = IfSome (slice_get ls i) (λ l. IsTrue (is_reserved reserved s l))

-- a place is reserved for what port p of system s sends, on the cable of that port, if it has one
abbrev pub IsReserved : {C : Type 0} → (C → List Item) → (C → Option ℕ) → (C → Bool) → Side → ℕ → List (Cabled C) → Type 0
IsReserved items limit reserved s p ls = IsReservedAt reserved s (link_index s p (link_states items limit ls)) ls

-- a place is reserved for what system s sends, on every cable
abbrev pub AreReserved : {C : Type 0} → (C → Bool) → Side → List (Cabled C) → Type 0
AreReserved reserved s ls = (i : ℕ) → IsReservedAt reserved s (Some i) ls

-- there is room for one more serial number that conversation k sends, if it exists among these
abbrev pub HasRoomIn : ℕ → List Flow → Type 0
HasRoomIn k flows = IfSome (slice_get flows k) (λ f. vec_len f.sent < vec_capacity f.sent)

-- there is room for one more serial number that conversation k of an aggregator sends, if both exist
abbrev pub HasRoomAt : Option (Vec Flow) → ℕ → Type 0
HasRoomAt None k = Unit {0}
HasRoomAt (Some flows) k = HasRoomIn k flows.items

-- there is room for one more serial number that conversation k of aggregator g sends, if both exist
abbrev pub HasRoom : ℕ → ℕ → List (Vec Flow) → Type 0
HasRoom g k flows = HasRoomAt (element_numbered flows g) k

-- the records of the conversations of a system, as contracts see them
abbrev pub flow_values : List (Vec Flow) → List (List FlowValue)
flow_values flows = map (λ xs. map flow_value xs.items) flows
