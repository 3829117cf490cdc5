-- A loop that writes each element of a list in turn.
use Rattle.std.proofs.Common.{◌≡◌, ℕ, zero, suc, ◌+◌, ◌<◌, ◌≤◌, List, [], ◌∷◌, length, get_or, set, add-one, arith, subst}
use Rattle.std.specs.List.{AllZip}

-- the first i elements were written, each as R says, and the others are as they were
abbrev pub SoFar : {X : Type 0} → (X → X → Type 0) → ℕ → List X → List X → Type 0
SoFar R zero olds news = news ≡ olds
SoFar R (suc i) [] [] = Unit {0}
SoFar R (suc i) [] (y ∷ ys) = ⊥
SoFar R (suc i) (x ∷ xs) [] = ⊥
SoFar R (suc i) (x ∷ xs) (y ∷ ys) = R x y × SoFar R i xs ys

SoFar-suc : {X : Type 0} (R : X → X → Type 0) (i : ℕ) (olds news : List X) (d y : X) → i < length news → SoFar R i olds news
    → R (get_or news i d) y → SoFar R (suc i) olds (set news i y)
SoFar-suc R i olds [] d y l h r = absurd (omega arith)
SoFar-suc R zero [] (n ∷ ns) d y l h r = cc
SoFar-suc R zero (o ∷ os) (n ∷ ns) d y l h r = let same : n ≡ o = cc in (subst (λ z. R z y) same r, cc)
SoFar-suc R (suc i) [] (n ∷ ns) d y l h r = absurd h
SoFar-suc R (suc i) (o ∷ os) (n ∷ ns) d y l h r = (h.0, SoFar-suc R i os ns d y (omega arith) h.1 r)

-- one more was written
pub SoFar-more : {X : Type 0} (R : X → X → Type 0) (i : ℕ) (olds news : List X) (d y : X) → i < length news → SoFar R i olds news
    → R (get_or news i d) y → SoFar R (i + 1) olds (set news i y)
SoFar-more R i olds news d y l h r = rw add-one (SoFar-suc R i olds news d y l h r)

-- all were written
pub SoFar-all : {X : Type 0} (R : X → X → Type 0) (i : ℕ) (olds news : List X) → length news ≤ i → SoFar R i olds news → AllZip R olds news
SoFar-all R zero olds [] l h = let e : olds ≡ [] = cc in rw e tt
SoFar-all R zero olds (n ∷ ns) l h = absurd (omega arith)
SoFar-all R (suc i) [] [] l h = tt
SoFar-all R (suc i) [] (n ∷ ns) l h = absurd h
SoFar-all R (suc i) (o ∷ os) [] l h = absurd h
SoFar-all R (suc i) (o ∷ os) (n ∷ ns) l h = (h.0, SoFar-all R i os ns (omega arith) h.1)
