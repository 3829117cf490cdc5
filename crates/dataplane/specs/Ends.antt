-- How two ends of the same bundles choose (profile).
use Rattle.std.specs.Prelude.{◌≡◌, ◌⊎◌, ◌<◌, true, false, Option, Some, None}
use Rattle.lagtypes.specs.declared.identifiers.AggId.{AggId}
use Rattle.lagsystem.specs.State.{SystemState}
use Rattle.dataplane.specs.declared.active.choosing.Rank.{Rank}
use Rattle.dataplane.specs.Choice.{IsAggregator, rank_in}

-- for each aggregator of the first system that has a rank the second has one with the same partner flag, count of ports and
-- group, whatever its number
abbrev pub ShowsNoLess : SystemState → SystemState → Type 0
ShowsNoLess s t = (g : AggId) (r : Rank) → IsAggregator s g → rank_in None s g ≡ Some r
    → (h : AggId) × IsAggregator t h × (rank_in None t h ≡ Some (record r { agg = h }))

-- both systems show the same partner flags, counts of ports and groups
pub record ShowTheSame (s t : SystemState) : Type 0 where
  pub there : ShowsNoLess s t
  pub back : ShowsNoLess t s

-- both choose none, or aggregators with the same partner flag, count of ports and group
abbrev pub Alike : SystemState → Option AggId → SystemState → Option AggId → Type 0
Alike s None t None = Unit {0}
Alike s (Some g) t (Some h) = (r : Rank) × (rank_in None s g ≡ Some r) × (rank_in None t h ≡ Some (record r { agg = h }))
Alike s None t (Some h) = ⊥
Alike s (Some g) t None = ⊥

-- the aggregator of the first rank has strictly more: a partner where the other runs on defaults, or more ports
abbrev pub HasMore : Rank → Rank → Type 0
HasMore r q =
    ((r.on_defaults ≡ false) × (q.on_defaults ≡ true)) ⊎ ((r.on_defaults ≡ q.on_defaults) × (q.ports.0 < r.ports.0))
