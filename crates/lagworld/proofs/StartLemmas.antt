-- Lists that are filled in a loop.
use Rattle.lagworld.proofs.Common.{List, [], ap, arith, get_or, length, map, refl, replicate, sym, take, ℕ, ◌++◌, ◌+◌, ◌<◌, ◌∙◌, ◌∷◌, ◌≡◌, map-append}
use Rattle.lagworld.proofs.Common.{replicate_more, take_more}

-- one more is made of each item in turn
pub mapped_more : {X Y : Type 0} (f : X → Y) (xs : List X) (ys new : List Y) (i : ℕ) (d : X) (y : Y) → i < length xs
    → ys ≡ map f (take i xs) → y ≡ f (get_or xs i d) → new ≡ ys ++ y ∷ [] → new ≡ map f (take (i + 1) xs)
mapped_more f xs ys new i d y l h e n = n ∙ ap (λ ys. ys ++ y ∷ []) h ∙ ap (λ y. map f (take i xs) ++ y ∷ []) e
    ∙ sym (ap (map f) (take_more xs i d l) ∙ map-append f (take i xs) (get_or xs i d ∷ []))

-- one more of the same kind
pub filled : {X Y : Type 0} (f : X → Y) (xs new : List X) (x : X) (y : Y) (n : ℕ) → map f xs ≡ replicate n y → f x ≡ y → new ≡ xs ++ x ∷ []
    → map f new ≡ replicate (n + 1) y
filled f xs new x y n h e s = grind (arith, map, map-append, replicate, replicate_more)

-- a list of two items that came off one after another
pub two_of : {X : Type 0} (xs ys zs : List X) (a b : X) → length xs ≡ 2 → xs ≡ a ∷ ys → ys ≡ b ∷ zs → xs ≡ a ∷ b ∷ []
two_of xs ys zs a b l e f = let all : xs ≡ a ∷ b ∷ zs = e ∙ ap (λ ys. a ∷ ys) f in
    all ∙ ap (λ zs. a ∷ b ∷ zs) (none zs (sym l ∙ ap length all))
  where
    none : (zs : List _) → 2 ≡ length (a ∷ b ∷ zs) → zs ≡ []
    none [] h = refl
    none (z ∷ zs) h = absurd (omega (arith, h))
