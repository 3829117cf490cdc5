-- The first number below a limit.
use Rattle.lagscript.proofs.Common.{Bool, None, Some, ap₂, arith, cond, inl, inr, refl, subst, suc, true, zero, ℕ, ◌<◌, ◌≡◌, ◌⊎◌, or_first}
use Rattle.lagscript.proofs.Common.{first_below}
use Rattle.std.proofs.Math.Nat.{eq-or-lt_of_le}

-- if the numbers below i fail and i passes, it is i
pub first_below_found : (test : ℕ → Bool) (i n : ℕ) → i < n → first_below test i ≡ None → test i ≡ true → first_below test n ≡ Some i
first_below_found test i zero lt none pass = absurd (omega arith)
first_below_found test i (suc n) lt none pass = go (λ below. first_below_found test i n below none pass)
    (eq-or-lt_of_le {n = i} {m = n} (omega arith))
  where
    go : (i < n → first_below test n ≡ Some i) → (i ≡ n) ⊎ (i < n) → or_first (first_below test n) (cond (test n) (Some n) None) ≡ Some i
    go earlier (inl same) = subst (λ m. or_first (first_below test m) (cond (test m) (Some m) None) ≡ Some i) same
        (ap₂ (λ o b. or_first o (cond b (Some i) None)) none pass)
    go earlier (inr below) = ap₂ (λ o b. or_first o (cond b (Some n) None)) (earlier below) refl
