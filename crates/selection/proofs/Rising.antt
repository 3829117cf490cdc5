-- Views in ascending order of their port numbers, and anything else in ascending order of its numbers.
use Rattle.selection.proofs.Common.{Bool, IsTrue, List, [], arith, false, filter, length, map, nat_lt, refl, slice_index, true, ℕ, ◌+◌, ◌<◌, ◌↔◌, ◌∷◌}
use Rattle.selection.proofs.Common.{◌≡◌, nat_tests, get_or-map, AllPairs, IsAllAdjacentAnswer, slice_index_or, PortView, numbers}
use Rattle.std.specs.List.Sorted.{IsStrictlyIncreasing}
use Rattle.std.proofs.lemmas.List.Kept.{AllPairs-filter, AllPairs-from_increasing}

-- Things in ascending order of their numbers, whatever they are.

length-counted : {X : Type 0} (number : X → ℕ) (xs : List X) → length (map number xs) ≡ length xs
length-counted number [] = refl
length-counted number (x ∷ xs) = omega (arith, length-counted number xs)

counted-at : {X : Type 0} (number : X → ℕ) (xs : List X) (k : ℕ) (d : X) → k < length xs → slice_index (map number xs) k ≡ number (slice_index_or xs k d)
counted-at number xs k d h = get_or-map number xs k d 0 h

-- each number is below those after it
pairs-from_rising : {X : Type 0} (number : X → ℕ) (xs : List X) → IsStrictlyIncreasing (map number xs) → AllPairs (λ x y. number x < number y) xs
pairs-from_rising number xs h i j d lt within =
    let all = AllPairs-from_increasing (map number xs) h i j 0 lt (omega (arith, length-counted number xs)) in
    grind (arith, nat_tests, counted-at)

rising-from_pairs : {X : Type 0} (number : X → ℕ) (xs : List X) (d : X) → AllPairs (λ x y. number x < number y) xs → IsStrictlyIncreasing (map number xs)
rising-from_pairs number xs d h k within = let fits : k + 1 < length xs = omega (arith, length-counted number xs) in
    omega (arith, h k (k + 1) d (omega arith) fits, counted-at number xs k d (omega arith), counted-at number xs (k + 1) d fits)

-- some of them keep the order
pub rising-kept : {X : Type 0} (number : X → ℕ) (p : X → Bool) (xs : List X) → IsStrictlyIncreasing (map number xs)
    → IsStrictlyIncreasing (map number (filter p xs))
rising-kept number p [] h = h
rising-kept number p (x ∷ xs) h = rising-from_pairs number (filter p (x ∷ xs)) x
    (AllPairs-filter (λ x y. number x < number y) p (x ∷ xs) (pairs-from_rising number (x ∷ xs) h))

-- Views.

length-numbers : (views : List PortView) → length (numbers views) ≡ length views
length-numbers views = length-counted (λ (v : PortView). v.number) views

number-at : (views : List PortView) (k : ℕ) (d : PortView) → k < length views → slice_index (numbers views) k ≡ (slice_index_or views k d).number
number-at views k d h = counted-at (λ (v : PortView). v.number) views k d h

pub rising-filter : (p : PortView → Bool) (views : List PortView) → IsStrictlyIncreasing (numbers views) → IsStrictlyIncreasing (numbers (filter p views))
rising-filter p views h = rising-kept (λ (v : PortView). v.number) p views h

abbrev pub below : PortView → PortView → Bool
below v w = nat_lt v.number w.number

sorted : (views : List PortView) (d : PortView) → IsAllAdjacentAnswer (λ v w b. b ≡ below v w) views true → IsStrictlyIncreasing (numbers views)
sorted views d h k within = let fits : k + 1 < length views = omega (arith, length-numbers views) in
    let test = h k d fits in
    grind (arith, nat_tests, number-at)

unsorted : (views : List PortView) (d : PortView) → IsAllAdjacentAnswer (λ v w b. b ≡ below v w) views false → IsStrictlyIncreasing (numbers views) → ⊥
unsorted views d h up = let fits = h.1 in
    let test = h.2 d in
    grind (arith, nat_tests, length-numbers, number-at)

-- what `is_sorted_by` says of them
pub rising-answer : (views : List PortView) (r : Bool) → IsAllAdjacentAnswer (λ v w b. b ≡ below v w) views r → IsTrue r ↔ IsStrictlyIncreasing (numbers views)
rising-answer views r h = grind (arith, nat_tests, sorted, unsorted)
