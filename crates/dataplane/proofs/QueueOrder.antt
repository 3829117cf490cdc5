-- What every list of calls keeps.
use Rattle.dataplane.proofs.Common.{Bool, List, None, Option, [], ap, append-nil, append_assoc, arith, cond, drop, eqb, eqb-true, get_or, inl, inr}
use Rattle.dataplane.proofs.Common.{length, map, refl, slice_set, suc, sym, take, zero, ℕ, ◌&&◌, ◌++◌, ◌<◌, ◌∙◌, ◌∷◌, ◌≡◌, ◌≢◌, take-length}
use Rattle.dataplane.proofs.Common.{eqb-false, common_steps, get_or-set_other, get_or-set_same, map-append, is_none, Refusal, HoldingValue, counted}
use Rattle.dataplane.proofs.Common.{queue, refusal, with_queue, Clear, DropOldest, Dropped, Gone, Next, Put, QueueCall, Sent, accepted, after, gone}
use Rattle.dataplane.proofs.Common.{IsSubsequence, after_all, all_accepted, all_gone, all_sent, handle_of}

-- a queue that loses its first n handles
pub queue_loses : {X : Type 0} (qs : List (List X)) (c n : ℕ) → get_or (slice_set qs c (drop n (get_or qs c []))) c [] ≡ drop n (get_or qs c [])
queue_loses [] c zero = refl
queue_loses [] c (suc n) = refl
queue_loses (q ∷ qs) zero n = refl
queue_loses (q ∷ qs) (suc c) n = queue_loses qs c n

-- a queue that grows
pub queue_grows : {X : Type 0} (h : HoldingValue X) (c : ℕ) (q : List X) → refusal h c ≡ None → get_or (slice_set h.queues c q) c [] ≡ q
queue_grows h c q e = let l : c < length h.queues = grind (arith, common_steps) in get_or-set_same h.queues c q [] l

handles_of : {X : Type 0} (xs : List X) → map handle_of (map Sent xs) ≡ xs
handles_of [] = refl
handles_of (x ∷ xs) = ap (λ ys. x ∷ ys) (handles_of xs)

dropped_handles_of : {X : Type 0} (xs : List X) → map handle_of (map Dropped xs) ≡ xs
dropped_handles_of [] = refl
dropped_handles_of (x ∷ xs) = ap (λ ys. x ∷ ys) (dropped_handles_of xs)

take_drop : {X : Type 0} (n : ℕ) (q : List X) → take n q ++ drop n q ≡ q
take_drop n q = grind (arith, common_steps)

-- what one call does to one queue
put_step : {X : Type 0} (h : HoldingValue X) (c k : ℕ) (x : X) (o : Option Refusal) (b : Bool) → refusal h c ≡ o → eqb c k ≡ b
    → queue h k ++ cond (b && is_none o) (x ∷ []) []
    ≡ queue (cond (is_none o) (with_queue h c (queue h c ++ x ∷ [])) (record h { refused = counted h.refused 1 })) k
put_step h c k x o b e s = grind (arith, append-nil, queue, eqb-true, queue_grows, eqb-false, get_or-set_other)

lose_step : {X : Type 0} (h : HoldingValue X) (c k n : ℕ) (b : Bool) → eqb c k ≡ b
    → queue h k ≡ cond b (take n (queue h c)) [] ++ get_or (slice_set h.queues c (drop n (queue h c))) k []
lose_step h c k n b s = grind (arith, eqb-true, queue_loses, take_drop, queue, eqb-false, get_or-set_other, drop)

cond_map : {X Y : Type 0} (f : X → Y) (b : Bool) (xs : List X) → map f (cond b xs []) ≡ cond b (map f xs) []
cond_map f b xs = grind arith

one_step : {X : Type 0} (call : QueueCall X) (h : HoldingValue X) (k : ℕ)
    → queue h k ++ accepted k call h ≡ map handle_of (gone k call h) ++ queue (after call h) k
one_step (Put c x) h k = put_step h c k x (refusal h c) (eqb c k) refl refl
one_step (Next c) h k = rw (append-nil, cond_map, handles_of) (lose_step h c k 1 (eqb c k) refl)
one_step (DropOldest c) h k = rw (append-nil, cond_map, dropped_handles_of) (lose_step h c k 1 (eqb c k) refl)
one_step (Clear c) h k =
    rw (append-nil, cond_map, dropped_handles_of) (rw take-length at (lose_step h c k (length (queue h c)) (eqb c k) refl))

pub in_order : {X : Type 0} (calls : List (QueueCall X)) (h : HoldingValue X) (k : ℕ)
    → queue h k ++ all_accepted k calls h ≡ map handle_of (all_gone k calls h) ++ queue (after_all calls h) k
in_order [] h k = append-nil (queue h k)
in_order (call ∷ calls) h k = sym (append_assoc (queue h k) (accepted k call h) (all_accepted k calls (after call h)))
    ∙ ap (λ q. q ++ all_accepted k calls (after call h)) (one_step call h k)
    ∙ append_assoc (map handle_of (gone k call h)) (queue (after call h) k) (all_accepted k calls (after call h))
    ∙ ap (λ q. map handle_of (gone k call h) ++ q) (in_order calls (after call h) k)
    ∙ sym (append_assoc (map handle_of (gone k call h)) (map handle_of (all_gone k calls (after call h))) (queue (after_all calls (after call h)) k))
    ∙ ap (λ q. q ++ queue (after_all calls (after call h)) k) (sym (map-append handle_of (gone k call h) (all_gone k calls (after call h))))

one_more : {X : Type 0} (xs ys : List X) (y : X) → IsSubsequence xs ys → IsSubsequence xs (y ∷ ys)
one_more [] ys y h = tt
one_more (x ∷ xs) ys y h = inr h

sent_in : {X : Type 0} (gs : List (Gone X)) (rest : List X) → IsSubsequence (all_sent gs) (map handle_of gs ++ rest)
sent_in [] rest = tt
sent_in (Sent x ∷ gs) rest = inl (refl, sent_in gs rest)
sent_in (Dropped x ∷ gs) rest = one_more (all_sent gs) (map handle_of gs ++ rest) x (sent_in gs rest)

pub subsequence : {X : Type 0} (calls : List (QueueCall X)) (h : HoldingValue X) (k : ℕ)
    → IsSubsequence (all_sent (all_gone k calls h)) (queue h k ++ all_accepted k calls h)
subsequence calls h k = rw (in_order calls h k) (sent_in (all_gone k calls h) (queue (after_all calls h) k))
