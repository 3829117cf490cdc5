-- What a contract sees of rings that changed.
use Rattle.dataplane.proofs.Common.{List, None, Some, [], ap, arith, get_or, length, min, refl, replicate, slice_get, slice_set, suc, sym, take, zero}
use Rattle.dataplane.proofs.Common.{ℕ, ◌++◌, ◌+◌, ◌-◌, ◌<◌, ◌^◌, ◌∙◌, ◌∷◌, ◌≡◌, drop-length, take-length, common_steps, map-set, sum-map, sum_by-set}
use Rattle.dataplane.proofs.Common.{is_none, sum, sum_by, Buffer, buffer, Refusal, HoldingValue, IsHolding, holding_of, in_all, queue, refusal}
use Rattle.dataplane.proofs.Common.{ring_at, ring_queues, with_queue, Clear, Put, after}
use Rattle.dataplane.specs.Holding.{counted}
use Rattle.std.proofs.lemmas.Simd.{map-map}

pub queue_of : {X : Type 0} (rings : List (Buffer X)) (place : ℕ) → get_or (ring_queues rings) place [] ≡ (ring_at rings place).items
queue_of [] place = refl
queue_of (ring ∷ rings) zero = refl
queue_of (ring ∷ rings) (suc place) = queue_of rings place

pub in_all_of : {X : Type 0} (rings : List (Buffer X)) → sum_by length (ring_queues rings) ≡ sum_by (λ ring. length ring.items) rings
in_all_of rings = sym (sum-map length (ring_queues rings)) ∙ ap sum (map-map length (λ ring. ring.items) rings) ∙ sum-map (λ ring. length ring.items) rings

pub queues_set : {X : Type 0} (rings new : List (Buffer X)) (place : ℕ) (q : List X) (most : ℕ)
    → new ≡ slice_set rings place (buffer q most) → ring_queues new ≡ slice_set (ring_queues rings) place q
queues_set rings new place q most e = ap ring_queues e ∙ map-set (λ ring. ring.items) rings place (buffer q most)

pub queues_empty : {X : Type 0} (count most : ℕ) → ring_queues (replicate count (buffer {X = X} [] most)) ≡ replicate count []
queues_empty zero most = refl
queues_empty (suc count) most = ap (λ qs. [] ∷ qs) (queues_empty count most)

pub counted_is : (count more : ℕ) → counted count more ≡ min (count + more) (2 ^ 64 - 1)
unfolding counted
counted_is count more = refl

-- one handle is counted where there was one
pub counted_one : {X : Type 0} (q : List X) (x : X) (count : ℕ) → slice_get q 0 ≡ Some x → counted count (length (take 1 q)) ≡ min (count + 1) (2 ^ 64 - 1)
counted_one q x count e = grind (arith, common_steps, counted_is)

-- and none where there was none
pub counted_none : {X : Type 0} (q : List X) (count : ℕ) → None ≡ slice_get q 0 → count < 2 ^ 64 → counted count (length (take 1 q)) ≡ count
counted_none q count e f = grind (arith, counted_is, common_steps)

pub same_holding : {X : Type 0} (ps qs : List (List X)) (a e d f r s : ℕ) → ps ≡ qs → d ≡ f → r ≡ s → holding_of ps a e d r ≡ holding_of qs a e f s
same_holding ps qs a e d f r s p q t = cc

-- a place in all is left where no reason stands against a handle
pub room_in_all : {X : Type 0} (h : HoldingValue X) (conversation : ℕ) → refusal h conversation ≡ None → in_all h < h.most_in_all
room_in_all h conversation e = grind (arith, common_steps)

-- a handle more in a ring that has room
pub put_keeps : {X : Type 0} (rings new : List (Buffer X)) (waiting most_in_all most_each place : ℕ) (x : X) → IsHolding rings waiting most_in_all most_each
    → place < length rings → length (ring_at rings place).items < most_each → waiting < most_in_all
    → new ≡ slice_set rings place (buffer ((ring_at rings place).items ++ x ∷ []) (ring_at rings place).capacity)
    → IsHolding new (waiting + 1) most_in_all most_each
put_keeps rings new waiting most_in_all most_each place x h l m n e = grind (arith, common_steps, sum_by-set, buffer, ring_at)

-- what `put` leaves, where no reason stands against it
pub put_waits : {X : Type 0} (rings new : List (Buffer X)) (a e d r place conversation : ℕ) (x : X) (h : HoldingValue X)
    → holding_of (ring_queues rings) a e d r ≡ h → place ≡ conversation → refusal h conversation ≡ None
    → new ≡ slice_set rings place (buffer ((ring_at rings place).items ++ x ∷ []) (ring_at rings place).capacity)
    → holding_of (ring_queues new) a e d r ≡ after (Put conversation x) h
put_waits rings new a e d r place conversation x h v p o n = grind (arith, holding_of, ring_queues, with_queue, queue, queue_of, same_holding, queues_set, after, is_none, counted)

-- and where one does
pub put_refuses : {X : Type 0} (qs : List (List X)) (a e d r more conversation : ℕ) (x : X) (h : HoldingValue X) (f : Refusal) → holding_of qs a e d r ≡ h
    → refusal h conversation ≡ Some f → more ≡ min (r + 1) (2 ^ 64 - 1) → holding_of qs a e d more ≡ after (Put conversation x) h
put_refuses qs a e d r more conversation x h f v o m = grind (arith, holding_of, counted, same_holding, counted_is, after, is_none, with_queue, queue)

-- what `clear` leaves
pub clear_empties : {X : Type 0} (rings new : List (Buffer X)) (a e d r more number most place conversation : ℕ) (h : HoldingValue X)
    → holding_of (ring_queues rings) a e d r ≡ h → place ≡ conversation → number ≡ length (ring_at rings place).items → more ≡ min (d + number) (2 ^ 64 - 1)
    → new ≡ slice_set rings place (buffer [] most) → holding_of (ring_queues new) a e more r ≡ after (Clear conversation) h
clear_empties rings new a e d r more number most place conversation h v p l m n = grind (arith, queue_of, take-length, drop-length, same_holding, queues_set, counted_is, counted)
