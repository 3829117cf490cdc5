-- The soonest of a list, as far as a loop has come.
use Rattle.lagsystem.proofs.Common.{List, Option, arith, drop, get_or, length, map, suc, ℕ, ◌+◌, ◌<◌, ◌∙◌, ◌∷◌, ◌≡◌, sooner, sooner_assoc, SystemPort}
use Rattle.lagsystem.proofs.Common.{soonest}
use Rattle.std.proofs.Math.Seq.{drop-cons}

-- one port more was looked at
pub soonest_on : (f : SystemPort → Option ℕ) (xs : List SystemPort) (i : ℕ) (x : SystemPort) (first next all : Option ℕ) → i < length xs → x ≡ get_or xs i x
    → next ≡ sooner first (f x) → sooner first (soonest (map f (drop i xs))) ≡ all → sooner next (soonest (map f (drop (i + 1) xs))) ≡ all
soonest_on f xs i x first next all lt is e rest = let next_index : suc i ≡ i + 1 = omega arith in
    grind (arith, drop, drop-cons, sooner, soonest, map, sooner_assoc)
