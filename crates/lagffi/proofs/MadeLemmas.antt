-- Lists that are made in a loop.
use Rattle.lagffi.proofs.Common.{List, get_or, length, map, take, ℕ, ◌+◌, ◌<◌, ◌≡◌}
use Rattle.std.proofs.Common.{◌++◌, [], ◌∷◌, ap, sym, ◌∙◌}
use Rattle.std.proofs.lemmas.List.{take_more, map-append}

-- one more is made of each item in turn
pub mapped_more : {X Y : Type 0} (f : X → Y) (xs : List X) (ys new : List Y) (i : ℕ) (d : X) (y : Y) → i < length xs
    → ys ≡ map f (take i xs) → y ≡ f (get_or xs i d) → new ≡ ys ++ y ∷ [] → new ≡ map f (take (i + 1) xs)
mapped_more f xs ys new i d y l h e n = n ∙ ap (λ ys. ys ++ y ∷ []) h ∙ ap (λ y. map f (take i xs) ++ y ∷ []) e
    ∙ sym (ap (map f) (take_more xs i d l) ∙ map-append f (take i xs) (get_or xs i d ∷ []))
