-- The result of reading: a value or the first fault (profile).
use Rattle.std.specs.Prelude.{◌≡◌, ◌⊎◌, ℕ, ◌+◌, Bool, List, [], ◌∷◌, if◌then◌else◌, Option, Some, None, Result, Ok, Err}

-- the second step if the first gave a value, else the first fault
infixl 10 ◌>>=◌
abbrev pub ◌>>=◌ : {A B E : Type 0} → Result A E → (A → Result B E) → Result B E
Ok x >>= f = f x
Err e >>= f = Err e

-- the value; or this fault if there is none
abbrev pub or_fault : {A E : Type 0} → E → Option A → Result A E
or_fault e None = Err e
or_fault e (Some x) = Ok x

-- the result if the test holds, else this fault
abbrev pub if_or_fault : {A E : Type 0} → Bool → E → Result A E → Result A E
if_or_fault b e r = if b then r else Err e

-- each element read by f with its place, the first at this place; or the first fault
abbrev pub each_at_place : {A X E : Type 0} → (ℕ → X → Result A E) → ℕ → List X → Result (List A) E
each_at_place f place [] = Ok []
each_at_place f place (x ∷ rest) = f place x >>= λ y. each_at_place f (place + 1) rest >>= λ ys. Ok (y ∷ ys)

-- the result is the stated one, or memory ran out
abbrev pub ReadsAs : {A B E : Type 0} → E → (A → B) → Result B E → Result A E → Type 0
ReadsAs memory see stated (Ok x) = stated ≡ Ok (see x)
ReadsAs memory see stated (Err e) = (e ≡ memory) ⊎ (stated ≡ Err e)
