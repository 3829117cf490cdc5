-- No call passes a bound.
use Rattle.dataplane.proofs.Common.{List, Option, [], arith, cond, drop, get_or, length, refl, slice_set, ℕ, ◌++◌, ◌+◌, ◌<◌, ◌∷◌, ◌≡◌, ◌≢◌, ◌≤◌}
use Rattle.dataplane.proofs.Common.{set_out, cases_lt, eqb_tells, common_steps, get_or-set_other, sum_by-set, is_none, sum_by, Refusal, HoldingValue}
use Rattle.dataplane.proofs.Common.{counted, in_all, queue, refusal, with_queue, Clear, DropOldest, Next, Put, QueueCall, after, IsWithin, after_all}
use Rattle.dataplane.proofs.QueueOrder.{queue_loses, queue_grows}

-- a queue in the place of another
queue_is : {X : Type 0} (qs : List (List X)) (c k most : ℕ) (q : List X) → length (get_or (slice_set qs c q) c []) ≤ most
    → length (get_or qs k []) ≤ most → length (get_or (slice_set qs c q) k []) ≤ most
queue_is qs c k most q own other = grind (arith, eqb_tells, get_or-set_other)

-- the number of all that wait, where one queue becomes another
in_all_is : {X : Type 0} (qs : List (List X)) (c most : ℕ) (q : List X) → (c < length qs → sum_by length qs + length q ≤ most + length (get_or qs c []))
    → sum_by length qs ≤ most → sum_by length (slice_set qs c q) ≤ most
in_all_is qs c most q more h = grind (arith, cases_lt, sum_by, slice_set, get_or, sum_by-set, set_out)

-- an equal or shorter queue
shorter : {X : Type 0} (h : HoldingValue X) (c n : ℕ) → IsWithin h → IsWithin (with_queue h c (drop n (queue h c)))
shorter h c n w = grind (arith, drop, queue, common_steps, queue_is, queue_loses, in_all_is, in_all)

put_within : {X : Type 0} (h : HoldingValue X) (c : ℕ) (x : X) (o : Option Refusal) → refusal h c ≡ o → IsWithin h
    → IsWithin (cond (is_none o) (with_queue h c (queue h c ++ x ∷ [])) (record h { refused = counted h.refused 1 }))
put_within h c x o e w = grind (arith, queue, common_steps, in_all, queue_is, queue_grows, in_all_is)

one_within : {X : Type 0} (call : QueueCall X) (h : HoldingValue X) → IsWithin h → IsWithin (after call h)
one_within (Put c x) h w = put_within h c x (refusal h c) refl w
one_within (Next c) h w = shorter h c 1 w
one_within (DropOldest c) h w = let s : IsWithin (with_queue h c (drop 1 (queue h c))) = shorter h c 1 w in record { each = s.each; all = s.all }
one_within (Clear c) h w = let s : IsWithin (with_queue h c (drop (length (queue h c)) (queue h c))) = shorter h c (length (queue h c)) w in record { each = s.each; all = s.all }

pub within : {X : Type 0} (calls : List (QueueCall X)) (h : HoldingValue X) → IsWithin h → IsWithin (after_all calls h)
within [] h w = w
within (call ∷ calls) h w = within calls (after call h) (one_within call h w)
