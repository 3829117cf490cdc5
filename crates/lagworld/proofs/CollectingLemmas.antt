-- Serial numbers that are collected, and the places that are reserved for them.
use Rattle.lagworld.proofs.Common.{List, OnOk, Option, Result, Some, [], add-one, arith, get_or, length, set, slice_get, vec_capacity, vec_len, ℕ}
use Rattle.lagworld.proofs.Common.{◌++◌, ◌+◌, ◌<◌, ◌∷◌, ◌≡◌, ◌≤◌, slice_get_read, Vec, Flow, CanCollect, CanCollectAt, CanCollectIn, flow_value}
use Rattle.lagworld.proofs.Common.{with_collected}
use Rattle.lagworld.proofs.Putting.{ok_weaker}
use Rattle.lagworld.proofs.Cables.{set_here}

-- a conversation with this list of serials that were handed up
abbrev pub put_collected : Flow → Vec ℕ → Flow
put_collected x v = record { sent = x.sent; collected = v; forced = x.forced }

pub same_serials : (x : Flow) (v : Vec ℕ) → v.items ≡ x.collected.items → flow_value (put_collected x v) ≡ flow_value x
same_serials x v e = λ i. record { sent = x.sent.items; collected = e i; forced = x.forced }

pub more_serials : (x : Flow) (v : Vec ℕ) (serial : ℕ) → v.items ≡ x.collected.items ++ serial ∷ []
    → flow_value (put_collected x v) ≡ with_collected serial (flow_value x)
more_serials x v serial e = λ i. record { sent = x.sent.items; collected = e i; forced = x.forced }

-- what holds of what is written, if that was done
there_if_ok : {X E U : Type 0} (P : Option X → Type 0) (Q : Type 0) (r : Result U E) (xs : List X) (i : ℕ) (x new : X) → i < length xs
    → x ≡ get_or xs i x → (Q → P (Some new)) → OnOk r Q → OnOk r (P (slice_get (set xs i new) i))
there_if_ok P Q r xs i x new lt read f = grind (arith, ok_weaker, set_here, slice_get_read)

-- a place was reserved in a conversation
pub room_there : {E U : Type 0} (r : Result U E) (row : List Flow) (i : ℕ) (x : Flow) (v : Vec ℕ) → i < length row → x ≡ get_or row i x
    → OnOk r (vec_len v + 1 ≤ vec_capacity v) → OnOk r (CanCollect (slice_get (set row i (put_collected x v)) i))
room_there r row i x v lt read h = there_if_ok CanCollect (vec_len v + 1 ≤ vec_capacity v) r row i x (put_collected x v) lt read
    (λ k. omega (arith, k)) h

-- it was in one of an aggregator
pub room_at : {E U : Type 0} (r : Result U E) (rows : List (Vec Flow)) (agg p conv k : ℕ) (x new : Vec Flow) → agg ≡ p + 1 → k ≡ conv → p < length rows
    → x ≡ get_or rows p x → OnOk r (CanCollect (slice_get new.items k)) → OnOk r (CanCollectAt agg conv (set rows p new))
room_at r rows agg p conv k x new is same lt read h = rw (is, add-one)
    (there_if_ok (CanCollectIn conv) (CanCollect (slice_get new.items k)) r rows p x new lt read (λ z. rw same at z) h)
