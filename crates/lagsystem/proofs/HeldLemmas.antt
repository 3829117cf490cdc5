-- Where no conversation is held on a port, to force what is held there changes nothing.
use Rattle.lagsystem.proofs.Common.{Bool, Ok, ap, arith, cond, false, inl, inr, is_some, length, refl, suc, true, zero, ℕ, ◌+◌, ◌<◌, ◌∙◌, ◌≡◌}
use Rattle.lagsystem.proofs.Common.{nat_tests, AggId, is_held_on, assignment_of, ForcesFirst, ForcesIn, ForcesPort, count_held_on, IsSound}
use Rattle.lagsystem.proofs.Common.{SystemState, port_index}
use Rattle.distributor.specs.Conversations.{sum_below}
use Rattle.lagsystem.proofs.TellingLemmas.{below_or_at}

-- each number of a sum that is 0 is 0
each_zero : (f : ℕ → ℕ) (n : ℕ) → sum_below f n ≡ 0 → (k : ℕ) → k < n → f k ≡ 0
unfolding sum_below
each_zero f zero e k l = absurd (omega (arith, l))
each_zero f (suc n) e k l = elim (below_or_at k n (let next : suc n ≡ n + 1 = omega arith in omega (arith, l, next))) [
  | inl less ↦ each_zero f n (omega (arith, e)) k less
  | inr same ↦ ap f same ∙ omega (arith, e)
]

not_counted : (b : Bool) → ◌≡◌ {A = ℕ} (cond b 1 0) 0 → b ≡ false
not_counted b e = grind (arith, nat_tests)

-- no conversation of this aggregator is held
abbrev NoneIn : ℕ → SystemState → ℕ → ℕ → Type 0
NoneIn port s g count = (c : ℕ) → c < count → is_held_on port (assignment_of s.table g c) ≡ false

none_in : (gives : ℕ → ℕ → ℕ → Type 0) (port : ℕ) (agg : AggId) (s : SystemState) (k : ℕ) → NoneIn port s agg.0 k → ForcesIn gives port agg k s 0 s
none_in gives port agg s zero h = (refl, refl)
none_in gives port agg s (suc k) h = grind (arith, nat_tests, none_in gives port agg s k (λ c l. h c (omega (arith, l))))

none_first : (gives : ℕ → ℕ → ℕ → Type 0) (port : ℕ) (s : SystemState) (g : ℕ)
    → ((a : ℕ) → a < g → NoneIn port s (a + 1) s.conversations) → ForcesFirst gives port g s 0 s
none_first gives port s zero h = (refl, refl)
none_first gives port s (suc g) h = grind (arith, nat_tests, none_in, none_first gives port s g (λ a l. h a (omega (arith, l))))

pub forces_none : (gives : ℕ → ℕ → ℕ → Type 0) (port : ℕ) (s : SystemState) → IsSound s → count_held_on port s ≡ 0
    → is_some (port_index port s.system_ports) ≡ true → ForcesPort gives port s (Ok 0) s
forces_none gives port s sound none there = (
  there,
  none_first gives port s (length s.keys) (λ a l c k.
      not_counted (is_held_on port (assignment_of s.table (a + 1) c))
      (each_zero (λ c. cond (is_held_on port (assignment_of s.table (a + 1) c)) 1 0) s.table.conversations
      (each_zero (λ a. sum_below (λ c. cond (is_held_on port (assignment_of s.table (a + 1) c)) 1 0) s.table.conversations) s.table.aggs none a
      (omega (arith, l, sound.aggregators))) c (omega (arith, k, sound.conversations)))),
)
