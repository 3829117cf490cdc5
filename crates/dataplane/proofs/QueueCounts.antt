-- What the counts of a list of calls are.
use Rattle.dataplane.proofs.Common.{List, Option, [], ap, arith, cond, eq-eqb, is_some, length, map, refl, sym, ℕ, ◌++◌, ◌+◌, ◌<◌, ◌^◌, ◌∙◌, ◌∷◌, ◌≡◌}
use Rattle.dataplane.proofs.Common.{take-length, is_none, Refusal, HoldingValue, counted, queue, refusal, with_queue, Dropped, QueueCall, Sent, after}
use Rattle.dataplane.proofs.Common.{gone, after_all, all_dropped, all_handed_back, conversation_of, handed_back, number_dropped}
use Rattle.dataplane.proofs.QueueViews.{counted_is}

counted_nothing : (d : ℕ) → d < 2 ^ 64 → counted d 0 ≡ d
counted_nothing d b = counted_is d 0 ∙ omega arith

counted_twice : (d a b : ℕ) → counted (counted d a) b ≡ counted d (a + b)
counted_twice d a b = rw (counted_is (counted d a) b, counted_is d a, counted_is d (a + b)) (omega arith)

counted_fits : (d a : ℕ) → counted d a < 2 ^ 64
counted_fits d a = rw counted_is (omega arith)

number_sent : {X : Type 0} (xs : List X) → number_dropped (map Sent xs) ≡ 0
number_sent [] = refl
number_sent (x ∷ xs) = number_sent xs

number_of_dropped : {X : Type 0} (xs : List X) → number_dropped (map Dropped xs) ≡ length xs
number_of_dropped [] = refl
number_of_dropped (x ∷ xs) = let e : number_dropped (map Dropped xs) ≡ length xs = number_of_dropped xs in omega (arith, e)

one_put : {X : Type 0} (h : HoldingValue X) (c : ℕ) (x : X) (o : Option Refusal)
    → (cond (is_none o) (with_queue h c (queue h c ++ x ∷ [])) (record h { refused = counted h.refused 1 })).dropped ≡ h.dropped
one_put h c x o = grind arith

one_drop : {X : Type 0} (call : QueueCall X) (h : HoldingValue X) → h.dropped < 2 ^ 64
    → (after call h).dropped ≡ counted h.dropped (number_dropped (gone (conversation_of call) call h))
one_drop call h b = grind (arith, one_put, refusal, counted_nothing, eq-eqb, number_sent, number_of_dropped, take-length)

pub dropped : {X : Type 0} (calls : List (QueueCall X)) (h : HoldingValue X) → h.dropped < 2 ^ 64
    → (after_all calls h).dropped ≡ counted h.dropped (all_dropped calls h)
dropped [] h b = sym (counted_nothing h.dropped b)
dropped (call ∷ calls) h b =
    let one : (after call h).dropped ≡ counted h.dropped (number_dropped (gone (conversation_of call) call h)) = one_drop call h b in
    let fits : (after call h).dropped < 2 ^ 64 = rw one (counted_fits h.dropped (number_dropped (gone (conversation_of call) call h))) in
    dropped calls (after call h) fits ∙ ap (λ d. counted d (all_dropped calls (after call h))) one
    ∙ counted_twice h.dropped (number_dropped (gone (conversation_of call) call h)) (all_dropped calls (after call h))

one_refused_put : {X : Type 0} (h : HoldingValue X) (c : ℕ) (x : X) (o : Option Refusal) → h.refused < 2 ^ 64
    → (cond (is_none o) (with_queue h c (queue h c ++ x ∷ [])) (record h { refused = counted h.refused 1 })).refused ≡ counted h.refused (cond (is_some o) 1 0)
one_refused_put h c x o b = grind (arith, counted_nothing)

one_refused : {X : Type 0} (call : QueueCall X) (h : HoldingValue X) → h.refused < 2 ^ 64 → (after call h).refused ≡ counted h.refused (handed_back call h)
one_refused call h b = grind (arith, one_refused_put, refusal, counted_nothing)

pub refused : {X : Type 0} (calls : List (QueueCall X)) (h : HoldingValue X) → h.refused < 2 ^ 64
    → (after_all calls h).refused ≡ counted h.refused (all_handed_back calls h)
refused [] h b = sym (counted_nothing h.refused b)
refused (call ∷ calls) h b = let one : (after call h).refused ≡ counted h.refused (handed_back call h) = one_refused call h b in
    let fits : (after call h).refused < 2 ^ 64 = rw one (counted_fits h.refused (handed_back call h)) in
    refused calls (after call h) fits ∙ ap (λ d. counted d (all_handed_back calls (after call h))) one
    ∙ counted_twice h.refused (handed_back call h) (all_handed_back calls (after call h))
