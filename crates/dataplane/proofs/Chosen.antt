-- What follows of the aggregators that are chosen.
use Rattle.dataplane.proofs.Common.{Bool, None, Option, Some, ap, eq-eqb, false, inl, inr, not, refl, subst, sym, true, ◌==◌, ◌∙◌, ◌≡◌, ◌≢◌, ◌⊎◌}
use Rattle.dataplane.proofs.Common.{same_Some, AggId, SystemState, Rank, Carries, IsAggregator, is_before, rank_in, Alike, HasMore, ShowTheSame}
use native.Mathlib.Omega.{arith}
use Rattle.dataplane.proofs.Best.{names}
use Rattle.dataplane.proofs.Ranks.{alike, has_more}

abbrev renumbered : Rank → AggId → Rank
renumbered r agg = record r { agg = agg }

same_or_not : (a b : AggId) → (a ≡ b) ⊎ (a ≢ b)
same_or_not a b = grind arith

pub ends_alike : (s t : SystemState) (g h : Option AggId) → ShowTheSame s t → Carries None s g → Carries None t h → Alike s g t h
ends_alike s t None None x a b = tt
ends_alike s t None (Some h) x a b = grind arith
ends_alike s t (Some g) None x a b = grind arith
ends_alike s t (Some g) (Some h) x a b = (
  r,
  a.2,
  elim (same_or_not there.0 h) [
    | inl e ↦ subst (λ z. rank_in None t z ≡ Some (renumbered r z)) e there.2
    | inr apart ↦ elim (same_or_not back.0 g) [
      | inl e ↦ (let one : r ≡ renumbered q g = same_Some r (renumbered q g) (sym a.2
          ∙ subst (λ z. rank_in None s z ≡ Some (renumbered q z)) e back.2) in
          b.2 ∙ ap (λ (z : Rank). Some z) (numbered ∙ sym (ap (λ (z : Rank). renumbered z h) one)))
      | inr other ↦ b.2 ∙ ap (λ (z : Rank). Some z) (alike r q (renumbered r there.0) (renumbered q back.0) refl refl
          (b.3 there.0 (renumbered r there.0) there.1 apart there.2) (a.3 back.0 (renumbered q back.0) back.1 other back.2)
          ∙ ap (λ z. renumbered r z) named)
    ]
  ],
)
  where
    r : Rank
    r = a.1

    q : Rank
    q = b.1

    there : (z : AggId) × IsAggregator t z × (rank_in None t z ≡ Some (renumbered r z))
    there = x.there g r a.0 a.2

    back : (z : AggId) × IsAggregator s z × (rank_in None s z ≡ Some (renumbered q z))
    back = x.back h q b.0 b.2

    named : q.agg ≡ h
    named = (names None t h q b.2).0

    numbered : q ≡ renumbered q h
    numbered = λ i. record q { agg = named i }

another : (a b : AggId) (t : Bool) → (b.0 == a.0) ≡ t → a ≢ b → not t ≡ true
another a b t e n = grind arith

itself : (a : AggId) → not (a.0 == a.0) ≡ false
itself a = ap not (eq-eqb a.0 a.0 refl)

pub stays : (s : SystemState) (now g : AggId) (r q : Rank) → Carries (Some now) s (Some g) → g ≢ now → IsAggregator s now
    → rank_in (Some now) s g ≡ Some r → rank_in (Some now) s now ≡ Some q → HasMore r q
stays s now g r q a apart is er eq = let same : a.1 ≡ r = same_Some a.1 r (sym a.2 ∙ er) in
    let before = subst (λ z. is_before z q ≡ true) same (a.3 now q is (λ e. apart (sym e)) eq) in
    has_more r q ((names (Some now) s g r er).1 ∙ another g now (now.0 == g.0) refl apart)
    ((names (Some now) s now q eq).1 ∙ itself now) before
