-- The record of a conversation changes, in code and as contracts see it.
use Rattle.lagworld.proofs.Common.{List, None, add-one, ap, arith, get_or, length, map, refl, set, slice_get, subst, suc, sym, zero, ℕ, ◌+◌, ◌<◌, ◌∙◌}
use Rattle.lagworld.proofs.Common.{◌≡◌, ◌≤◌, ◌⊎◌, length-map, map-set, slice_get-get_or, slice_get_past, slice_get_read, Vec, Flow, flow_value}
use Rattle.lagworld.proofs.Common.{HasRoom, HasRoomAt, HasRoomIn, flow_values, FlowValue, change_flow, change_flow_in, element_numbered, flow_at}
use Rattle.lagworld.proofs.Common.{flow_in_aggregator, sent_in}
use Rattle.lagworld.proofs.LineLemmas.{mapped_there}
use Rattle.lagworld.proofs.Cables.{set_here}

abbrev pub aggregator_flow_values : Vec Flow → List FlowValue
aggregator_flow_values xs = map flow_value xs.items

-- one conversation of an aggregator
pub flow_set : (f : FlowValue → FlowValue) (xs : List Flow) (k : ℕ) (x new : Flow) → k < length xs → x ≡ get_or xs k x → flow_value new ≡ f (flow_value x)
    → map flow_value (set xs k new) ≡ change_flow_in f (slice_get (map flow_value xs) k) k (map flow_value xs)
flow_set f xs k x new lt read e = rw (mapped_there flow_value xs k x lt read) (map-set flow_value xs k new ∙ ap (set (map flow_value xs) k) e)

pub flow_read : (xs : List Flow) (k : ℕ) (x : Flow) → k < length xs → x ≡ get_or xs k x
    → length x.sent.items ≡ length (sent_in (slice_get (map flow_value xs) k))
flow_read xs k x lt read = sym (ap (λ o. length (sent_in o)) (mapped_there flow_value xs k x lt read))

-- one conversation of one aggregator
pub row_set : (f : FlowValue → FlowValue) (rows : List (Vec Flow)) (g i k conv : ℕ) (row new : Vec Flow) → g ≡ i + 1 → k ≡ conv → i < length rows
    → row ≡ get_or rows i row → aggregator_flow_values new ≡ change_flow_in f (slice_get (aggregator_flow_values row) k) k (aggregator_flow_values row)
    → flow_values (set rows i new) ≡ change_flow f g conv (flow_values rows)
row_set f rows g i k conv row new is same lt read e = rw (is, add-one, ← same, mapped_there aggregator_flow_values rows i row lt read)
    (map-set aggregator_flow_values rows i new ∙ ap (set (flow_values rows) i) e)

no_row : {X : Type 0} (rows : List X) (g n : ℕ) → ((g ≡ 0) ⊎ (n < g)) → length rows ≤ n → element_numbered rows g ≡ None
no_row rows g n h le = grind (arith, slice_get_past)

no_row_seen : (rows : List (Vec Flow)) (g n : ℕ) → ((g ≡ 0) ⊎ (n < g)) → length rows ≤ n → element_numbered (flow_values rows) g ≡ None
no_row_seen rows g n h le = no_row (flow_values rows) g n h (rw length-map le)

pub no_row_set : (f : FlowValue → FlowValue) (rows : List (Vec Flow)) (g k n : ℕ) → ((g ≡ 0) ⊎ (n < g)) → length rows ≤ n
    → flow_values rows ≡ change_flow f g k (flow_values rows)
no_row_set f rows zero k n h le = refl
no_row_set f rows (suc i) k n h le = rw (no_row_seen rows (suc i) n h le) refl

pub row_read : (rows : List (Vec Flow)) (g i k conv : ℕ) (row : Vec Flow) → g ≡ i + 1 → k ≡ conv → i < length rows → row ≡ get_or rows i row
    → slice_get (aggregator_flow_values row) k ≡ flow_at (flow_values rows) g conv
row_read rows g i k conv row is same lt read = rw (is, add-one, ← same, mapped_there aggregator_flow_values rows i row lt read) refl

pub no_row_read : (rows : List (Vec Flow)) (g k n : ℕ) → ((g ≡ 0) ⊎ (n < g)) → length rows ≤ n → flow_at (flow_values rows) g k ≡ None
no_row_read rows g k n h le = ap (λ o. flow_in_aggregator o k) (no_row_seen rows g n h le)

-- there is room for one more serial
pub room_there : (rows : List (Vec Flow)) (g i k conv : ℕ) (row : Vec Flow) → g ≡ i + 1 → k ≡ conv → i < length rows
    → row ≡ get_or rows i row → HasRoom g conv rows → HasRoomIn k row.items
room_there rows g i k conv row is same lt read h = grind (arith, add-one, slice_get_read)

pub room_made : (rows : List (Vec Flow)) (g i k conv : ℕ) (row : Vec Flow) → g ≡ i + 1 → k ≡ conv → i < length rows → HasRoomIn k row.items
    → HasRoom g conv (set rows i row)
room_made rows g i k conv row is same lt h =
    rw (is, add-one, set_here rows i row (get_or rows i row) (slice_get-get_or rows i row lt), ← same) h

pub no_room : (rows : List (Vec Flow)) (g k n : ℕ) → ((g ≡ 0) ⊎ (n < g)) → length rows ≤ n → HasRoom g k rows
no_room rows g k n h le = subst (λ o. HasRoomAt o k) (sym (no_row rows g n h le)) tt
