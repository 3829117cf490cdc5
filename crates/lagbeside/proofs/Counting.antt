-- How many elements of a list pass a test.
use Rattle.lagbeside.proofs.Common.{Bool, List, Some, [], ap, arith, cond, false, filter, length, refl, slice_get, suc, true, zero, ℕ, ◌+◌, ◌∙◌, ◌∷◌}
use Rattle.lagbeside.proofs.Common.{◌≡◌, ◌≤◌, false≢true, nat_tests, none-some, same_Some}

abbrev pub count : {A : Type 0} → (A → Bool) → List A → ℕ
count test [] = zero
count test (x ∷ xs) = cond (test x) (suc (count test xs)) (count test xs)

one_counted : {A : Type 0} (b : Bool) (x : A) (rest : List A) (n : ℕ) → length rest ≡ n → length (cond b (x ∷ rest) rest) ≡ cond b (suc n) n
one_counted b x rest n h = grind (arith, nat_tests)

pub counted : {A : Type 0} (test : A → Bool) (xs : List A) → length (filter test xs) ≡ count test xs
counted test [] = refl
counted test (x ∷ xs) = one_counted (test x) x (filter test xs) (count test xs) (counted test xs)

bit_less : (a b : Bool) (m n : ℕ) → (a ≡ true → b ≡ true) → m ≤ n → cond a (suc m) m ≤ cond b (suc n) n
bit_less a b m n h l = grind (arith, nat_tests)

bit_more : (a b : Bool) (m n : ℕ) → a ≡ false → b ≡ true → m ≤ n → cond a (suc m) m + 1 ≤ cond b (suc n) n
bit_more a b m n h k l = grind (arith, nat_tests)

later_more : (a b : Bool) (m n : ℕ) → (a ≡ true → b ≡ true) → m + 1 ≤ n → cond a (suc m) m + 1 ≤ cond b (suc n) n
later_more a b m n h l = grind (arith, nat_tests)

-- a test that is met more often, by the elements of the list, counts at least as many
pub count_less_of : {A : Type 0} (one other : A → Bool) (xs : List A)
    → ((j : ℕ) (y : A) → slice_get xs j ≡ Some y → one y ≡ true → other y ≡ true) → count one xs ≤ count other xs
count_less_of one other [] k = omega arith
count_less_of one other (x ∷ xs) k = bit_less (one x) (other x) (count one xs) (count other xs) (k zero x refl)
    (count_less_of one other xs (λ j y e. k (suc j) y e))

-- and one more, if an element meets it alone
pub count_more_of : {A : Type 0} (one other : A → Bool) (xs : List A) → ((j : ℕ) (y : A) → slice_get xs j ≡ Some y → one y ≡ true → other y ≡ true)
    → (i : ℕ) (x : A) → slice_get xs i ≡ Some x → one x ≡ false → other x ≡ true → count one xs + 1 ≤ count other xs
count_more_of one other [] k i x e f t = absurd (none-some x e)
count_more_of one other (y ∷ ys) k zero x e f t = let same : y ≡ x = same_Some y x e in
    bit_more (one y) (other y) (count one ys) (count other ys) (ap one same ∙ f) (ap other same ∙ t)
    (count_less_of one other ys (λ j z g. k (suc j) z g))
count_more_of one other (y ∷ ys) k (suc i) x e f t = later_more (one y) (other y) (count one ys) (count other ys) (k zero y refl)
    (count_more_of one other ys (λ j z g. k (suc j) z g) i x e f t)

-- two lists of the same length, in which the test says the same at each place
pub count_same : {A : Type 0} (one : A → Bool) (xs ys : List A) → length ys ≡ length xs
    → ((j : ℕ) (x y : A) → slice_get xs j ≡ Some x → slice_get ys j ≡ Some y → one y ≡ one x) → count one ys ≡ count one xs
count_same one [] [] l k = refl
count_same one (x ∷ xs) (y ∷ ys) l k = let rest = count_same one xs ys (omega (arith, l)) (λ j a b e f. k (suc j) a b e f) in
    ap (λ b. cond b (suc (count one ys)) (count one ys)) (k zero x y refl refl)
    ∙ ap (λ n. cond (one x) (suc n) n) rest
count_same one xs ys l k = absurd (omega (arith, l))
