-- Two groups are equal exactly if the pairs of ends are equal as unordered pairs.
use Rattle.std.proofs.Common.{arith, ◌≡◌, ◌⊎◌, Bool, Option, ap, sym, ◌∙◌, rules, if◌then◌else◌}
use Rattle.std.specs.declared.cmp.Ordering.{Ordering}
use Rattle.std.specs.declared.cmp.Ordering.TheVariants.{Equal}
use Rattle.std.specs.Ordering.{is_lt, nat_cmp, ordering_then, ordering_reverse}
use Rattle.std.specs.Cmp.{IsTotalOrder}
use Rattle.std.specs.Cmp.Rules.{comparing}
use Rattle.std.specs.Cmp.Lexicographic.{slice_cmp}
use Rattle.std.specs.Option.{option_cmp}
use Rattle.std.proofs.lemmas.Map.Lookups.{exact_unsigned, exact_bytes}
use Rattle.lagtypes.specs.declared.identifiers.SystemId.{SystemId}
use Rattle.lagtypes.specs.declared.identifiers.PortId.{PortId}
use Rattle.lagtypes.specs.declared.group.End.{End}
use Rattle.lagtypes.specs.declared.group.Group.{Group}
use Rattle.lagtypes.specs.Order.{system_cmp, port_cmp, end_cmp}
use Rattle.lagtypes.specs.Group.{Pair, SamePair, lower_first}

-- an order of two fields answers Equal only if both do
then_first : (o p : Ordering) → ordering_then o p ≡ Equal → o ≡ Equal
then_first o p e = grind arith

then_second : (o p : Ordering) → ordering_then o p ≡ Equal → p ≡ Equal
then_second o p e = grind arith

exact_port : (p q : PortId) → port_cmp p q ≡ Equal → p ≡ q
exact_port p q e = grind arith

exact_system : (s t : SystemId) → system_cmp s t ≡ Equal → s ≡ t
exact_system s t e = λ i. record {
  priority = exact_unsigned s.priority t.priority (then_first (nat_cmp s.priority t.priority) (slice_cmp nat_cmp s.mac t.mac) e) i;
  mac = exact_bytes s.mac t.mac (then_second (nat_cmp s.priority t.priority) (slice_cmp nat_cmp s.mac t.mac) e) i;
}

exact_ports : (o p : Option PortId) → option_cmp port_cmp o p ≡ Equal → o ≡ p
exact_ports o p e = grind arith

exact_ends : (x y : End) → end_cmp x y ≡ Equal → x ≡ y
exact_ends x y e = let rest = ordering_then (nat_cmp x.key.0 y.key.0) (option_cmp port_cmp x.port y.port) in
    let e2 = then_second (system_cmp x.system y.system) rest e in
    λ i. record {
      system = exact_system x.system y.system (then_first (system_cmp x.system y.system) rest e) i;
      key = record { 0 = exact_unsigned x.key.0 y.key.0 (then_first (nat_cmp x.key.0 y.key.0) (option_cmp port_cmp x.port y.port) e2) i };
      port = exact_ports x.port y.port (then_second (nat_cmp x.key.0 y.key.0) (option_cmp port_cmp x.port y.port) e2) i;
    }

total_ends : IsTotalOrder end_cmp
total_ends = search (comparing, rules) depth 12

abbrev pick : Ordering → End → End → Group
pick o x y = if is_lt o then record { lower = y; upper = x } else record { lower = x; upper = y }

-- o is how y compares with x
swap_by : (o : Ordering) (x y : End) → (o ≡ Equal → x ≡ y) → pick o x y ≡ pick (ordering_reverse o) y x
swap_by o x y e = grind arith

-- the order in which the ends are named does not count
swapped : (x y : End) → lower_first (record { one = x; other = y }) ≡ lower_first (record { one = y; other = x })
swapped x y = swap_by (end_cmp y x) x y (λ e. sym (exact_ends y x e)) ∙ ap (λ o. pick o y x) (sym (total_ends.antisymm x y))

abbrev Either : Pair → Group → Type 0
Either p g = ((g.lower ≡ p.one) × (g.upper ≡ p.other)) ⊎ ((g.lower ≡ p.other) × (g.upper ≡ p.one))

either : (b : Bool) (p : Pair) → Either p (if b then record { lower = p.other; upper = p.one } else record { lower = p.one; upper = p.other })
either b p = grind arith

-- equal groups are of equal pairs
pub pairs_from_groups : (p q : Pair) → lower_first p ≡ lower_first q → SamePair p q
pairs_from_groups p q e = grind (arith, either)

-- equal pairs have equal groups
pub groups_from_pairs : (p q : Pair) → SamePair p q → lower_first p ≡ lower_first q
groups_from_pairs p q h = grind (arith, swapped)
