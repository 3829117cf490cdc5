-- The order of ranks.
use Rattle.dataplane.proofs.Common.{Bool, ap, arith, false, if◌then◌else◌, inr, refl, rules, sym, true, ℕ, ◌<◌, ◌∙◌, ◌≡◌, ◌≢◌, false≢true, Rank}
use Rattle.dataplane.proofs.Common.{group_cmp, is_before, rank_cmp, HasMore}
use Rattle.std.specs.declared.cmp.Ordering.{Ordering}
use Rattle.std.specs.declared.cmp.Ordering.TheVariants.{Less, Equal, Greater}
use Rattle.std.specs.Ordering.{is_lt, nat_cmp, bool_cmp, ordering_then, ordering_reverse}
use Rattle.std.specs.Cmp.{IsTotalOrder, then_total, on_total, back_total, nat_cmp_total, bool_cmp_total}
use Rattle.std.specs.Cmp.Rules.{comparing}
use Rattle.std.proofs.lemmas.Map.Lookups.{exact_unsigned}
use Rattle.lagtypes.specs.declared.group.End.{End}
use Rattle.lagtypes.specs.declared.group.Group.{Group}
use Rattle.lagtypes.specs.Order.{end_cmp}
use Rattle.lagtypes.proofs.GroupLemmas.{groups_from_pairs}

first_equal : (o p : Ordering) → ordering_then o p ≡ Equal → o ≡ Equal
first_equal o p e = grind arith

second_equal : (o p : Ordering) → ordering_then o p ≡ Equal → p ≡ Equal
second_equal o p e = grind arith

total_ends : IsTotalOrder end_cmp
total_ends = search (comparing, rules) depth 12

total_groups : IsTotalOrder group_cmp
total_groups = then_total (on_total (λ (g : Group). g.lower) total_ends) (on_total (λ (g : Group). g.upper) total_ends)

total_ranks : IsTotalOrder rank_cmp
total_ranks = then_total (on_total (λ (r : Rank). r.on_defaults) bool_cmp_total)
    (then_total (on_total (λ (r : Rank). r.ports.0) (back_total nat_cmp_total))
    (then_total (on_total (λ (r : Rank). r.is_other) bool_cmp_total)
    (then_total (on_total (λ (r : Rank). r.group) total_groups) (on_total (λ (r : Rank). r.agg.0) nat_cmp_total))))

abbrev pick : Ordering → End → End → Group
pick o x y = if is_lt o then record { lower = y; upper = x } else record { lower = x; upper = y }

-- Ends that compare Equal are equal: the ends of a group stand in their order, whichever is named first.
exact_ends : (x y : End) → end_cmp x y ≡ Equal → x ≡ y
exact_ends x y e = let back : end_cmp y x ≡ Equal = total_ends.antisymm y x ∙ ap ordering_reverse e in
    let same : pick (end_cmp y x) x y ≡ pick (end_cmp x y) y x
    = groups_from_pairs (record { one = x; other = y }) (record { one = y; other = x }) (inr (refl, refl)) in
    grind (arith, pick)

exact_groups : (g h : Group) → group_cmp g h ≡ Equal → g ≡ h
exact_groups g h e = λ i. record {
  lower = exact_ends g.lower h.lower (first_equal (end_cmp g.lower h.lower) (end_cmp g.upper h.upper) e) i;
  upper = exact_ends g.upper h.upper (second_equal (end_cmp g.lower h.lower) (end_cmp g.upper h.upper) e) i;
}

exact_flags : (a b : Bool) → bool_cmp a b ≡ Equal → a ≡ b
exact_flags a b e = grind arith

is_less : (o : Ordering) → is_lt o ≡ true → o ≡ Less
is_less o h = grind arith

-- the parts of a comparison of ranks
abbrev by_flag : Rank → Rank → Ordering
by_flag r q = bool_cmp r.on_defaults q.on_defaults

abbrev by_ports : Rank → Rank → Ordering
by_ports r q = nat_cmp q.ports.0 r.ports.0

abbrev by_other : Rank → Rank → Ordering
by_other r q = bool_cmp r.is_other q.is_other

abbrev by_group : Rank → Rank → Ordering
by_group r q = group_cmp r.group q.group

abbrev by_number : Rank → Rank → Ordering
by_number r q = nat_cmp r.agg.0 q.agg.0

number_equal : (r q : Rank) → rank_cmp r q ≡ Equal → r.agg.0 ≡ q.agg.0
number_equal r q e = grind (arith, second_equal, by_flag, ordering_then, by_ports, by_other, by_group, by_number, exact_unsigned)

-- of two aggregators one comes before the other
pub else_before : (r q : Rank) → r.agg.0 ≢ q.agg.0 → is_before r q ≡ false → is_before q r ≡ true
else_before r q n h = at (rank_cmp r q) refl
  where
    at : (o : Ordering) → rank_cmp r q ≡ o → is_before q r ≡ true
    at Less e = absurd (false≢true (sym h ∙ ap is_lt e))
    at Equal e = absurd (n (number_equal r q e))
    at Greater e = ap is_lt (total_ranks.antisymm q r ∙ ap ordering_reverse e)

pub before_in_turn : (r q p : Rank) → is_before r q ≡ true → is_before q p ≡ true → is_before r p ≡ true
before_in_turn r q p a b = ap is_lt (total_ranks.trans r q p (is_less (rank_cmp r q) a) (is_less (rank_cmp q p) b))

-- the comparison of ranks by what does not depend on numbers
abbrev by_all : Rank → Rank → Ordering
by_all r q = ordering_then (by_flag r q) (ordering_then (by_ports r q) (ordering_then (by_other r q) (by_group r q)))

regrouped : (a b c d e : Ordering)
    → ordering_then a (ordering_then b (ordering_then c (ordering_then d e))) ≡ ordering_then (ordering_then a (ordering_then b (ordering_then c d))) e
regrouped a b c d e = grind arith

not_greater : (o e : Ordering) → is_lt (ordering_then o e) ≡ true → o ≡ Greater → ⊥
not_greater o e h g = grind arith

total_all : IsTotalOrder by_all
total_all = then_total (on_total (λ (r : Rank). r.on_defaults) bool_cmp_total)
    (then_total (on_total (λ (r : Rank). r.ports.0) (back_total nat_cmp_total))
    (then_total (on_total (λ (r : Rank). r.is_other) bool_cmp_total) (on_total (λ (r : Rank). r.group) total_groups)))

-- ranks of which each comes before the other, but for its number, are equal but for their numbers
pub alike : (r q p n : Rank) → p ≡ record r { agg = p.agg } → n ≡ record q { agg = n.agg } → is_before q p ≡ true → is_before r n ≡ true
    → q ≡ record r { agg = q.agg }
alike r q p n ep en a b = λ i. record {
  on_defaults = sym (exact_flags r.on_defaults q.on_defaults flag) i;
  ports = record { 0 = exact_unsigned q.ports.0 r.ports.0 ports i };
  is_other = sym (exact_flags r.is_other q.is_other other) i;
  group = sym (exact_groups r.group q.group group) i;
  agg = q.agg;
}
  where
    forth : is_lt (ordering_then (by_all q r) (by_number q p)) ≡ true
    forth = ap is_lt (sym (regrouped (by_flag q r) (by_ports q r) (by_other q r) (by_group q r) (by_number q p)))
        ∙ ap is_lt (ap (λ (z : Rank). ordering_then (by_flag q z) (ordering_then (by_ports q z) (ordering_then (by_other q z) (ordering_then (by_group q z) (by_number q p))))) (sym ep)) ∙ a

    back : is_lt (ordering_then (by_all r q) (by_number r n)) ≡ true
    back = ap is_lt (sym (regrouped (by_flag r q) (by_ports r q) (by_other r q) (by_group r q) (by_number r n)))
        ∙ ap is_lt (ap (λ (z : Rank). ordering_then (by_flag r z) (ordering_then (by_ports r z) (ordering_then (by_other r z) (ordering_then (by_group r z) (by_number r n))))) (sym en)) ∙ b

    reversed : by_all q r ≡ ordering_reverse (by_all r q)
    reversed = total_all.antisymm q r

    equal : (o : Ordering) → by_all r q ≡ o → by_all r q ≡ Equal
    equal Equal e = e
    equal Less e = absurd (not_greater (by_all q r) (by_number q p) forth (reversed ∙ ap ordering_reverse e))
    equal Greater e = absurd (not_greater (by_all r q) (by_number r n) back e)

    same : by_all r q ≡ Equal
    same = equal (by_all r q) refl

    flag : by_flag r q ≡ Equal
    flag = first_equal (by_flag r q) (ordering_then (by_ports r q) (ordering_then (by_other r q) (by_group r q))) same

    rest : ordering_then (by_ports r q) (ordering_then (by_other r q) (by_group r q)) ≡ Equal
    rest = second_equal (by_flag r q) (ordering_then (by_ports r q) (ordering_then (by_other r q) (by_group r q))) same

    ports : by_ports r q ≡ Equal
    ports = first_equal (by_ports r q) (ordering_then (by_other r q) (by_group r q)) rest

    last : ordering_then (by_other r q) (by_group r q) ≡ Equal
    last = second_equal (by_ports r q) (ordering_then (by_other r q) (by_group r q)) rest

    other : by_other r q ≡ Equal
    other = first_equal (by_other r q) (by_group r q) last

    group : by_group r q ≡ Equal
    group = second_equal (by_other r q) (by_group r q) last

-- what comes before the aggregator that carries now has strictly more
pub has_more : (r q : Rank) → r.is_other ≡ true → q.is_other ≡ false → is_before r q ≡ true → HasMore r q
has_more r q a b h = grind arith
