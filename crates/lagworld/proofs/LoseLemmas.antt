-- The first item on a cable is lost.
use Rattle.lagworld.proofs.Common.{Bool, IsSomeAnd, List, Some, [], ap, drop, is_some, map, refl, set, slice_get, suc, sym, zero, ℕ, ◌∙◌, ◌∷◌, ◌≡◌}
use Rattle.lagworld.proofs.Common.{same_Some, Side, Reply, lost_reply, LosesFrom, ItemValue, LinkState, WorldState, towards, with_links, with_towards}
use Rattle.lagworld.proofs.Common.{without_first}
use native.Mathlib.Omega.{arith}

pub first_some : {X Y : Type 0} (f : X → Y) (xs : List X) → is_some (slice_get xs 0) ≡ is_some (slice_get (map f xs) 0)
first_some f [] = refl
first_some f (x ∷ xs) = refl

pub rest_mapped : {X Y : Type 0} (f : X → Y) (xs : List X) → map f (drop 1 xs) ≡ drop 1 (map f xs)
rest_mapped f xs = grind arith

nothing_towards : (s : Side) (l : LinkState) → towards s l ≡ [] → with_towards s [] l ≡ l
nothing_towards s l e = grind arith

set_same : {X : Type 0} (xs : List X) (i : ℕ) (x : X) → slice_get xs i ≡ Some x → set xs i x ≡ xs
set_same [] i x h = refl
set_same (y ∷ xs) zero x h = ap (λ z. z ∷ xs) (sym (same_Some y x h))
set_same (y ∷ xs) (suc i) x h = ap (λ zs. y ∷ zs) (set_same xs i x h)

lost_from : (s : Side) (i : ℕ) (l : LinkState) (items : List ItemValue) (old : WorldState) (links : List LinkState)
    → slice_get old.links i ≡ Some l → towards s l ≡ items → links ≡ set old.links i (with_towards s (drop 1 items) l)
    → LosesFrom s i l items old (lost_reply (is_some (slice_get items 0))) (with_links old links)
lost_from s i l items old links here is n = grind (arith, with_links, set, nothing_towards, set_same)

-- the first item of the cable at a place is lost
pub lost_there : (s : Side) (i : ℕ) (r : Reply) (lost : Bool) (old : WorldState) (links : List LinkState) → r ≡ lost_reply lost
    → IsSomeAnd (slice_get old.links i) (λ l. (links ≡ set old.links i (without_first s l)) × (lost ≡ is_some (slice_get (towards s l) 0)))
    → IsSomeAnd (slice_get old.links i) (λ l. LosesFrom s i l (towards s l) old r (with_links old links))
lost_there s i r lost old links e h = grind (arith, slice_get, set, without_first, is_some, towards, with_links, lost_reply, lost_from)
