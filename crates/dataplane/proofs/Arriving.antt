-- Subsequences, and the elements at places.
use Rattle.dataplane.proofs.Common.{List, Option, Some, [], ap, append_assoc, arith, inl, inr, length, refl, slice_get, slice_index, subst, suc, sym}
use Rattle.dataplane.proofs.Common.{zero, ℕ, ◌++◌, ◌+◌, ◌<◌, ◌∙◌, ◌∷◌, ◌≡◌, common_steps, option_to_list, IsSubsequenceOfSerials, at_places}
use Rattle.dataplane.proofs.Common.{IsSubsequence}

one_more : {X : Type 0} (xs ys : List X) (y : X) → IsSubsequence xs ys → IsSubsequence xs (y ∷ ys)
one_more [] ys y h = tt
one_more (x ∷ xs) ys y h = inr h

pub in_turn : {X : Type 0} (xs ys zs : List X) → IsSubsequence xs ys → IsSubsequence ys zs → IsSubsequence xs zs
in_turn [] ys zs a b = tt
in_turn (x ∷ xs) [] zs a b = absurd a
in_turn (x ∷ xs) (y ∷ ys) [] a b = absurd b
in_turn (x ∷ xs) (y ∷ ys) (z ∷ zs) a (inl q) = elim a [ inl p ↦ inl (p.0 ∙ q.0, in_turn xs ys zs p.1 q.1) | inr r ↦ inr (in_turn (x ∷ xs) ys zs r q.1) ]
in_turn (x ∷ xs) (y ∷ ys) (z ∷ zs) a (inr q) = inr (in_turn (x ∷ xs) (y ∷ ys) zs a q)

both : {X : Type 0} (xs ys : List X) (a b : Option X) → a ≡ b → IsSubsequence xs ys → IsSubsequence (option_to_list a ++ xs) (option_to_list b ++ ys)
both xs ys a b e h = grind arith

more : {X : Type 0} (xs ys : List X) (b : Option X) → IsSubsequence xs ys → IsSubsequence xs (option_to_list b ++ ys)
more xs ys b h = grind (arith, one_more)

-- a subsequence of places has a subsequence of the elements
pub fewer_places : {X : Type 0} (o : List X) (is js : List ℕ) → IsSubsequenceOfSerials is js → IsSubsequence (at_places o is) (at_places o js)
fewer_places o [] js h = tt
fewer_places o (i ∷ is) [] h = absurd h
fewer_places o (i ∷ is) (j ∷ js) (inl p) = both (at_places o is) (at_places o js) (slice_get o i) (slice_get o j) (ap (slice_get o) p.0) (fewer_places o is js p.1)
fewer_places o (i ∷ is) (j ∷ js) (inr q) = more (at_places o (i ∷ is)) (at_places o js) (slice_get o j) (fewer_places o (i ∷ is) js q)

first_behind : {X : Type 0} (front : List X) (x : X) (back : List X) → slice_get (front ++ x ∷ back) (length front) ≡ Some x
first_behind [] x back = refl
first_behind (y ∷ front) x back = first_behind front x back

-- the elements at all places are all elements
pub all_places : {X : Type 0} (front o : List X) (js : List ℕ) → length o ≡ length js
    → ((i : ℕ) → i < length js → slice_index js i ≡ i + length front) → at_places (front ++ o) js ≡ o
all_places front [] [] e h = refl
all_places front [] (j ∷ js) e h = absurd (omega (arith, e))
all_places front (x ∷ o) [] e h = absurd (omega (arith, e))
all_places front (x ∷ o) (j ∷ js) e h = let start : j ≡ 0 + length front = h 0 (omega arith) in
    let here : j ≡ length front = omega (arith, start) in
    let this : slice_get (front ++ x ∷ o) j ≡ Some x = ap (slice_get (front ++ x ∷ o)) here ∙ first_behind front x o in
    let grown : length (front ++ x ∷ []) ≡ length front + 1 = grind (arith, common_steps) in
    let rest : at_places ((front ++ x ∷ []) ++ o) js ≡ o = all_places (front ++ x ∷ []) o js (omega (arith, e))
    (λ i l. let up : slice_index (j ∷ js) (suc i) ≡ suc i + length front = h (suc i) (omega (arith, l)) in omega (arith, up, grown)) in
    let same : at_places (front ++ x ∷ o) js ≡ o = ap (λ l. at_places l js) (sym (append_assoc front (x ∷ []) o)) ∙ rest in
    ap (λ a. option_to_list a ++ at_places (front ++ x ∷ o) js) this ∙ ap (λ l. x ∷ l) same

there : {X : Type 0} (o : List X) (i : ℕ) → i < length o → length (option_to_list (slice_get o i)) ≡ 1
there [] i l = absurd (omega (arith, l))
there (x ∷ o) zero l = refl
there (x ∷ o) (suc i) l = there o i (omega (arith, l))

-- each of some places that are there has its element
pub each_place : {X : Type 0} (o : List X) (is js : List ℕ) → IsSubsequenceOfSerials is js
    → ((i : ℕ) → i < length js → slice_index js i < length o) → length (at_places o is) ≡ length is
each_place o [] js s h = refl
each_place o (i ∷ is) [] s h = absurd s
each_place o (i ∷ is) (j ∷ js) (inl p) h = let here : j < length o = h 0 (omega arith) in
    let one = there o i (subst (λ n. n < length o) (sym p.0) here) in
    let rest = each_place o is js p.1 (λ n l. h (suc n) (omega (arith, l))) in
    grind (arith, common_steps)
each_place o (i ∷ is) (j ∷ js) (inr q) h = each_place o (i ∷ is) js q (λ n l. h (suc n) (omega (arith, l)))
