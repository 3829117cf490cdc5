-- The walk that counts the members of each aggregator, and what its counts say.
use Rattle.lagsystem.proofs.Common.{Bool, List, Option, [], ap, arith, cond, false, filter, get_or, inl, inr, length, sym, take, ℕ, ◌+◌, ◌<◌, ◌∙◌}
use Rattle.lagsystem.proofs.Common.{◌∷◌, ◌≡◌, ◌≤◌, cases_lt, nat_tests, get_or_past, length-take-le, AggId, Choice, Selected, AggregatorsValue}
use Rattle.lagsystem.proofs.Common.{has_room, is_below, has_chosen, SystemPort, CountsMembers, views}
use Rattle.std.proofs.lemmas.List.Filters.{length-filter_more}
use Rattle.lagsystem.proofs.NextLemmas.{full_no_room}

-- one port more
pub counted_more : (l : List SystemPort) (i : ℕ) (d : SystemPort) (choice : Choice) (counts new : List ℕ) → i < length l → CountsMembers (take i l) counts
    → length new ≡ 65 → choice ≡ (get_or l i d).port.choice
    → ((agg : AggId) → agg.0 < 65 → get_or new agg.0 0 ≡ get_or counts agg.0 0 + cond (has_chosen agg choice) 1 0) → CountsMembers (take (i + 1) l) new
counted_more l i d choice counts new lt h many is more = record {
  many = many;
  each = λ agg low. more agg low ∙ ap (λ n. n + cond (has_chosen agg choice) 1 0) (h.each agg low)
      ∙ ap (λ (c : Choice). length (filter (λ s. has_chosen agg s.port.choice) (take i l)) + cond (has_chosen agg c) 1 0) is
      ∙ sym (length-filter_more (λ s. has_chosen agg s.port.choice) l i d lt);
}

-- a port that is not SELECTED is no member
pub no_member : (agg : AggId) (c : Choice) → ((given : AggId) → c ≡ Selected given → ⊥) → has_chosen agg c ≡ false
no_member agg c h = grind (arith, nat_tests)

pub none_more : (n : ℕ) (b : Bool) → b ≡ false → n ≡ n + cond b 1 0
none_more n b h = grind (arith, nat_tests)

few_filtered : (p : SystemPort → Bool) (l : List SystemPort) → length (filter p l) ≤ length l
few_filtered p [] = omega arith
few_filtered p (x ∷ xs) = grind (arith, nat_tests, few_filtered p xs)

-- no more than there are ports
counted_few : (l : List SystemPort) (counts : List ℕ) → CountsMembers l counts → (g : ℕ) → get_or counts g 0 ≤ length l
counted_few l counts h g = elim (cases_lt g 65) [
  | inl lt ↦ (let agg : AggId = record { 0 = g } in omega (arith, h.each agg lt, few_filtered (λ s. has_chosen agg s.port.choice) l))
  | inr past ↦ omega (arith, get_or_past counts g 0 (omega (arith, past, h.many)))
]

-- so one more can be counted
pub counted_below : (l : List SystemPort) (i : ℕ) (counts : List ℕ) → i < length l → length l ≤ 64 → CountsMembers (take i l) counts
    → (g : ℕ) → get_or counts g 0 < 255
counted_below l i counts lt few h g =
    omega (arith, counted_few (take i l) counts h g, length-take-le i l (omega (arith, lt)), lt, few)

-- as many members as the limit, as they are counted, leave no room
pub counted_full : (aggs : AggregatorsValue) (l : List SystemPort) (agg : AggId) (counts : List ℕ) (max_links : Option ℕ) → CountsMembers l counts
    → max_links ≡ aggs.max_links → agg.0 < 65 → is_below max_links (get_or counts agg.0 0) ≡ false → has_room aggs (views l) agg ≡ false
counted_full aggs l agg counts max_links h same low full = grind (arith, nat_tests, full_no_room)
