-- Lists whose elements are related in pairs, and a loop that writes or pushes each in turn.
use Rattle.lagsystem.proofs.Common.{List, [], add-one, arith, get_or, length, set, suc, zero, ℕ, ◌++◌, ◌+◌, ◌<◌, ◌∷◌, ◌≡◌, ◌≤◌, AllZip}

pub AllZip-weaker : {X : Type 0} (R S : X → X → Type 0) → ((x y : X) → R x y → S x y) → (xs ys : List X) → AllZip R xs ys → AllZip S xs ys
AllZip-weaker R S w [] [] h = tt
AllZip-weaker R S w [] (y ∷ ys) h = absurd h
AllZip-weaker R S w (x ∷ xs) [] h = absurd h
AllZip-weaker R S w (x ∷ xs) (y ∷ ys) h = (w x y h.0, AllZip-weaker R S w xs ys h.1)

pub each-push : {A B : Type 0} (R : A → B → Type 0) (xs : List A) (ys : List B) (x : A) (y : B) → AllZip R xs ys → R x y
    → AllZip R (xs ++ x ∷ []) (ys ++ y ∷ [])
each-push R [] [] x y h r = (r, tt)
each-push R [] (b ∷ bs) x y h r = absurd h
each-push R (a ∷ more) [] x y h r = absurd h
each-push R (a ∷ more) (b ∷ bs) x y h r = (h.0, each-push R more bs x y h.1 r)

-- the first i elements of one list are related to those of the other
abbrev pub Begun : {A B : Type 0} → (A → B → Type 0) → ℕ → List A → List B → Type 0
Begun R zero xs ys = Unit {0}
Begun R (suc i) [] ys = Unit {0}
Begun R (suc i) (x ∷ xs) [] = ⊥
Begun R (suc i) (x ∷ xs) (y ∷ ys) = R x y × Begun R i xs ys

Begun-suc : {A B : Type 0} (R : A → B → Type 0) (i : ℕ) (xs : List A) (ys : List B) (d : A) (y : B) → i < length xs → length ys ≡ length xs
    → Begun R i xs ys → R (get_or xs i d) y → Begun R (suc i) xs (set ys i y)
Begun-suc R i [] ys d y l e h r = tt
Begun-suc R i (a ∷ xs) [] d y l e h r = absurd (omega (arith, e))
Begun-suc R zero (a ∷ xs) (b ∷ ys) d y l e h r = (r, tt)
Begun-suc R (suc i) (a ∷ xs) (b ∷ ys) d y l e h r = (h.0, Begun-suc R i xs ys d y (omega arith) (omega (arith, e)) h.1 r)

pub Begun-more : {A B : Type 0} (R : A → B → Type 0) (i : ℕ) (xs : List A) (ys : List B) (d : A) (y : B) → i < length xs
    → length ys ≡ length xs → Begun R i xs ys → R (get_or xs i d) y → Begun R (i + 1) xs (set ys i y)
Begun-more R i xs ys d y l e h r = rw add-one (Begun-suc R i xs ys d y l e h r)

pub Begun-all : {A B : Type 0} (R : A → B → Type 0) (i : ℕ) (xs : List A) (ys : List B) → length xs ≤ i → length ys ≡ length xs
    → Begun R i xs ys → AllZip R xs ys
Begun-all R i [] [] l e h = tt
Begun-all R i [] (y ∷ ys) l e h = absurd (omega (arith, e))
Begun-all R i (x ∷ xs) [] l e h = absurd (omega (arith, e))
Begun-all R zero (x ∷ xs) (y ∷ ys) l e h = absurd (omega arith)
Begun-all R (suc i) (x ∷ xs) (y ∷ ys) l e h = (h.0, Begun-all R i xs ys (omega arith) (omega (arith, e)) h.1)
