-- Counting the changes of all ports, and emptying all cables: loops that replace each element of a list.
use Rattle.lagworld.proofs.Common.{List, [], ap, arith, drop, get_or, length, map, set, subst, suc, sym, take, zero, ℕ, ◌++◌, ◌+◌, ◌<◌, ◌∙◌, ◌∷◌, ◌≡◌}
use Rattle.lagworld.proofs.Common.{◌≤◌, length-map, map-set, map_over_more, Side, PortHistory, most_events, AreBelow, IsSound, WorldState, half}
use Rattle.std.proofs.Math.ListN.{get_or-map}
use Rattle.lagworld.proofs.Soundness.{below_more}

-- no port can have changed so often that its count overflows
pub few_changes : (s : Side) (j : WorldState) → IsSound j → AreBelow most_events (half s j).histories
few_changes s j i = below_more j.acted most_events (half s j).histories i.few (i.counts s)

-- a port that is not yet written was below the limit
pub below_at : (n i : ℕ) (f : PortHistory → PortHistory) (xs ys : List PortHistory) (x : PortHistory) → i < length xs → AreBelow n xs
    → ys ≡ map f (take i xs) ++ drop i xs → x ≡ get_or ys i x → x.count ≤ n
below_at n i f xs ys x l h e r = there i xs l h (r ∙ ap (λ l. get_or l i x) e)
  where
    there : (i : ℕ) (xs : List PortHistory) → i < length xs → AreBelow n xs → x ≡ get_or (map f (take i xs) ++ drop i xs) i x → x.count ≤ n
    there i [] l h r = absurd (omega arith)
    there zero (y ∷ ys) l h r = subst (λ (y : PortHistory). y.count ≤ n) (sym r) h.0
    there (suc i) (y ∷ ys) l h r = there i ys (omega arith) h.1 r

-- one more of a list that is seen through v is written, as f says of what is seen
pub view_over_more : {X Y : Type 0} (v : X → Y) (f : Y → Y) (xs ys : List X) (i : ℕ) (x y : X) → i < length xs
    → map v ys ≡ map f (take i (map v xs)) ++ drop i (map v xs) → x ≡ get_or ys i x → v y ≡ f (v x)
    → map v (set ys i y) ≡ map f (take (i + 1) (map v xs)) ++ drop (i + 1) (map v xs)
view_over_more v f xs ys i x y l h r e = grind (arith, map-set, set, map, map_over_more, length-map, get_or-map)
