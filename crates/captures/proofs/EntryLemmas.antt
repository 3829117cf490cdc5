-- The options, one after the other.
use Rattle.std.proofs.Common.{◌≡◌, ◌<◌, ◌≤◌, ◌+◌, ◌-◌, ℕ, suc, List, ap, refl, Ok, arith, ◌∙◌}
use Rattle.captures.specs.declared.interface.Timing.{Timing}
use Rattle.captures.specs.declared.number.Order.{Order}
use Rattle.captures.specs.Descriptions.{entry_at, timing_of, timing_from}
use Rattle.captures.specs.Reading.{◌>>=◌}

pub one_entry : (order : Order) (b : List ℕ) (end n : ℕ) (t : Timing) (at : ℕ)
    → timing_from order b end (suc n) t at ≡ (entry_at order b end at >>= timing_of (timing_from order b end n) t)
unfolding timing_from
one_entry order b end n t at = refl

-- what the options say from the counter on, by the first of them
pub next_entry : (order : Order) (b : List ℕ) (end counter : ℕ) (t : Timing) (at : ℕ) → counter < end
    → timing_from order b end (end - counter) t at ≡ (entry_at order b end at >>= timing_of (timing_from order b end (end - (counter + 1))) t)
next_entry order b end counter t at below = let one : end - counter ≡ suc (end - (counter + 1)) = omega arith in
    ap (λ n. timing_from order b end n t at) one ∙ one_entry order b end (end - (counter + 1)) t at

pub none_left : (order : Order) (b : List ℕ) (end : ℕ) (t : Timing) (at : ℕ) → timing_from order b end 0 t at ≡ Ok t
unfolding timing_from
none_left order b end t at = refl

-- where the counter is past them, none are left
pub no_entry : (order : Order) (b : List ℕ) (end counter : ℕ) (t : Timing) (at : ℕ) → end ≤ counter → timing_from order b end (end - counter) t at ≡ Ok t
no_entry order b end counter t at past = grind (arith, none_left)
