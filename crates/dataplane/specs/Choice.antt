-- Which aggregator carries the frames of a client (profile).
use Rattle.std.specs.Prelude.{◌≡◌, ◌≢◌, ℕ, zero, suc, ◌<◌, ◌≤◌, ◌^◌, ◌==◌, Bool, true, not, List, [], ◌∷◌, length, Option, Some, None, option_map, if◌then◌else◌}
use Rattle.std.specs.declared.cmp.Ordering.{Ordering}
use Rattle.std.specs.Ordering.{nat_cmp, bool_cmp, on, then_cmp, is_lt}
use Rattle.lagtypes.specs.declared.group.Group.{Group}
use Rattle.lagtypes.specs.declared.identifiers.AggId.{AggId}
use Rattle.lagtypes.specs.Order.{end_cmp}
use Rattle.lagsystem.specs.Readers.{aggregator_numbered, distributing, group_at}
use Rattle.lagsystem.specs.State.{SystemState, machines_of}
use Rattle.dataplane.specs.declared.active.choosing.Rank.{Rank}

-- groups compare by their lower ends, then by their upper ends
abbrev pub group_cmp : Group → Group → Ordering
group_cmp = then_cmp (on (λ g. g.lower) end_cmp) (on (λ g. g.upper) end_cmp)

-- The order of ranks: a partner before defaults, then more ports before fewer, then the aggregator that carries now before
-- others, then the lesser LAG ID, then the lower number.
abbrev pub rank_cmp : Rank → Rank → Ordering
rank_cmp = then_cmp (on (λ r. r.on_defaults) bool_cmp)
    (then_cmp (on (λ r. r.ports.0) (λ m n. nat_cmp n m))
    (then_cmp (on (λ r. r.is_other) bool_cmp)
    (then_cmp (on (λ r. r.group) group_cmp)
    (on (λ r. r.agg.0) nat_cmp))))

-- the first rank comes before the second
abbrev pub is_before : Rank → Rank → Bool
is_before r q = is_lt (rank_cmp r q)

-- the lesser of two ranks, the first of which may be missing
abbrev pub lesser : Option Rank → Rank → Rank
lesser None rank = rank
lesser (Some least) rank = if is_before least rank then least else rank

-- the lesser of two ranks, either of which may be missing
abbrev pub better : Option Rank → Option Rank → Option Rank
better best None = best
better best (Some rank) = Some (lesser best rank)

-- the aggregator is another one than carries now
abbrev pub is_other : Option AggId → AggId → Bool
is_other None agg = true
is_other (Some carrying) agg = not (carrying.0 == agg.0)

-- the rank of an aggregator in which these ports distribute, by its first one; None if there is none
abbrev pub rank_by : Option AggId → AggId → SystemState → List ℕ → Option Rank
rank_by now agg s [] = None
rank_by now agg s (port ∷ ports) = option_map (λ p. record {
  on_defaults = p.defaulted;
  ports = record { 0 = length (port ∷ ports) };
  is_other = is_other now agg;
  group = group_at p;
  agg = agg;
}) (machines_of port s)

-- the rank of an aggregator, where this one carries now
abbrev pub rank_in : Option AggId → SystemState → AggId → Option Rank
rank_in now s agg = rank_by now agg s (distributing agg s.system_ports)

-- the aggregator is one of the system; its number has 16 bits, as each `AggId` has
pub record IsAggregator (s : SystemState) (agg : AggId) : Type 0 where
  pub first : 0 < agg.0
  pub last : agg.0 ≤ length s.keys
  pub number : agg.0 < 2 ^ 16

-- The aggregator that carries is the one of the least rank; there is none exactly if no aggregator has a rank.
abbrev pub Carries : Option AggId → SystemState → Option AggId → Type 0
Carries now s None = (agg : AggId) → IsAggregator s agg → rank_in now s agg ≡ None
Carries now s (Some agg) =
    IsAggregator s agg × (r : Rank) × (rank_in now s agg ≡ Some r)
    × ((other : AggId) (q : Rank) → IsAggregator s other → other ≢ agg → rank_in now s other ≡ Some q → is_before r q ≡ true)

-- the aggregator with this number, where 0 stands for none
abbrev pub aggregator_or_none : ℕ → Option AggId
aggregator_or_none zero = None
aggregator_or_none (suc n) = Some (aggregator_numbered (suc n))
