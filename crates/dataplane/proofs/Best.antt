-- The best aggregator so far.
use Rattle.dataplane.proofs.Common.{Bool, None, Option, Some, [], ap, arith, eqb, eqb-true, false, if◌then◌else◌, inl, inr, option_map, refl, subst}
use Rattle.dataplane.proofs.Common.{sym, true, ℕ, ◌+◌, ◌∙◌, ◌∷◌, ◌≡◌, ◌≢◌, ◌≤◌, ◌⊎◌, cases_Bool, eqb-false, none-some, same_Some, AggId}
use Rattle.dataplane.proofs.Common.{aggregator_numbered, SystemState, Rank, Carries, IsAggregator, better, is_before, is_other, lesser, rank_in}
use Rattle.dataplane.proofs.Ranks.{before_in_turn, else_before}

-- a rank names its aggregator, and whether that is another one
abbrev Names : Option AggId → AggId → Rank → Type 0
Names now agg r = (r.agg ≡ agg) × (r.is_other ≡ is_other now agg)

pub names : (now : Option AggId) (s : SystemState) (agg : AggId) (r : Rank) → rank_in now s agg ≡ Some r → Names now agg r
names now s agg r e = grind arith

-- the best of the aggregators up to number n
abbrev pub BestOf : Option AggId → SystemState → ℕ → Option Rank → Type 0
BestOf now s n None = (agg : AggId) → IsAggregator s agg → agg.0 ≤ n → rank_in now s agg ≡ None
BestOf now s n (Some r) = IsAggregator s r.agg × (rank_in now s r.agg ≡ Some r) × (r.agg.0 ≤ n)
    × ((other : AggId) (q : Rank) → IsAggregator s other → other.0 ≤ n → other ≢ r.agg → rank_in now s other ≡ Some q → is_before r q ≡ true)

at_most : (other : AggId) (n : ℕ) → other.0 ≤ n + 1 → (other.0 ≤ n) ⊎ (other ≡ aggregator_numbered (n + 1))
at_most other n l = grind arith

pub one_without : (now : Option AggId) (s : SystemState) (n : ℕ) (best : Option Rank) → BestOf now s n best
    → rank_in now s (aggregator_numbered (n + 1)) ≡ None → BestOf now s (n + 1) best
one_without now s n None b e = λ agg is l. elim (at_most agg n l) [
  | inl below ↦ b agg is below
  | inr here ↦ subst (λ a. rank_in now s a ≡ None) (sym here) e
]
one_without now s n (Some r) b e = (
  b.0,
  b.1,
  (let l = b.2 in omega (arith, l)),
  λ other q is l apart have. elim (at_most other n l) [
    | inl below ↦ b.3 other q is below apart have
    | inr here ↦ absurd (none-some q (sym e ∙ subst (λ a. rank_in now s a ≡ Some q) here have))
  ],
)

pub one_more : (now : Option AggId) (s : SystemState) (n : ℕ) (best : Option Rank) (r : Rank) → BestOf now s n best
    → IsAggregator s (aggregator_numbered (n + 1)) → rank_in now s (aggregator_numbered (n + 1)) ≡ Some r → BestOf now s (n + 1) (Some (lesser best r))
one_more now s n None r b is e = grind arith
one_more now s n (Some k) r b is e = by_order (is_before k r) refl
  where
    named : r.agg ≡ aggregator_numbered (n + 1)
    named = (names now s (aggregator_numbered (n + 1)) r e).0

    numbers : k.agg.0 ≢ r.agg.0
    numbers = λ same. let l = b.2 in let number = ap (λ (a : AggId). a.0) named in omega (arith, l, number, same)

    by_order : (t : Bool) → is_before k r ≡ t → BestOf now s (n + 1) (Some (if t then k else r))
    by_order true h = (
      b.0,
      b.1,
      (let l = b.2 in omega (arith, l)),
      λ other q has l apart have. elim (at_most other n l) [
        | inl below ↦ b.3 other q has below apart have
        | inr here ↦ subst (λ z. is_before k z ≡ true) (same_Some r q (sym e ∙ subst (λ a. rank_in now s a ≡ Some q) here have)) h
      ],
    )
    by_order false h = (
      subst (IsAggregator s) (sym named) is,
      subst (λ a. rank_in now s a ≡ Some r) (sym named) e,
      (let number = ap (λ (a : AggId). a.0) named in omega (arith, number)),
      λ other q has l apart have. elim (at_most other n l) [
        | inl below ↦ elim (cases_Bool (eqb other.0 k.agg.0)) [
          | inl t ↦ (let same : other ≡ k.agg = ap aggregator_numbered (eqb-true other.0 k.agg.0 t) in
              subst (λ z. is_before r z ≡ true) (same_Some k q (sym b.1 ∙ subst (λ a. rank_in now s a ≡ Some q) same have))
              (else_before k r numbers h))
          | inr f ↦ before_in_turn r k q (else_before k r numbers h)
              (b.3 other q has below (λ same. eqb-false other.0 k.agg.0 f (ap (λ (a : AggId). a.0) same)) have)
        ]
        | inr here ↦ absurd (apart (here ∙ sym named))
      ],
    )

pub one_better : (now : Option AggId) (s : SystemState) (n : ℕ) (best next : Option Rank) → BestOf now s n best
    → IsAggregator s (aggregator_numbered (n + 1)) → next ≡ rank_in now s (aggregator_numbered (n + 1)) → BestOf now s (n + 1) (better best next)
one_better now s n best next b is e = grind (arith, one_without, one_more)

pub best_carries : (now : Option AggId) (s : SystemState) (n : ℕ) (best : Option Rank) → BestOf now s n best
    → ((agg : AggId) → IsAggregator s agg → agg.0 ≤ n) → Carries now s (option_map (λ (r : Rank). r.agg) best)
best_carries now s n None b all = λ agg is. b agg is (all agg is)
best_carries now s n (Some r) b all = (b.0, r, b.1, λ other q is apart have. b.3 other q is (all other is) apart have)
