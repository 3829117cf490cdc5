-- What is true of the aggregator that a port chooses.
use Rattle.std.specs.Prelude.{◌≡◌, ◌≢◌, ◌-◌, ◌<◌, ◌⊎◌, false, List, Some, All, slice_get}
use Rattle.lagtypes.specs.declared.identifiers.AggId.{AggId}
use Rattle.lagtypes.specs.declared.identifiers.Key.{Key}
use Rattle.lagtypes.specs.declared.party.Choice.TheVariants.{Unselected, Selected, Standby}
use Rattle.lagtypes.specs.Group.{Pair, SamePair, individual, pair_of}
use Rattle.selection.specs.declared.view.PortView.{PortView}

-- the group of the port's link, as a pair of ends (6.3.6)
abbrev pub ends : PortView → Pair
ends v = pair_of v.party v.partner

-- the port was given this aggregator, as SELECTED or as STANDBY: it occupies the aggregator
abbrev pub IsOccupant : AggId → PortView → Type 0
IsOccupant agg w = (w.choice ≡ Selected agg) ⊎ (w.choice ≡ Standby agg)

-- no port occupies this aggregator
abbrev pub HasNoOccupant : List PortView → AggId → Type 0
HasNoOccupant views agg = All (λ w. IsOccupant agg w → ⊥) views

-- all occupants have the port's group, which is not Individual
pub record OccupantsShareGroup (views : List PortView) (agg : AggId) (v : PortView) : Type 0 where
  pub aggregatable : individual v.party v.partner ≡ false
  pub one_group : All (λ w. IsOccupant agg w → SamePair (ends w) (ends v)) views

-- The port is in no aggregator, its partner is not its own system, the aggregator has its key, and it has either no
-- occupant or only occupants with the port's group, which is not Individual.
pub record MayJoin (keys : List Key) (views : List PortView) (agg : AggId) (v : PortView) : Type 0 where
  pub outside : v.choice ≡ Unselected
  pub apart : v.partner.system ≢ v.party.system
  pub numbered : 0 < agg.0
  pub key : slice_get keys (agg.0 - 1) ≡ Some v.party.key
  pub occupants : HasNoOccupant views agg ⊎ OccupantsShareGroup views agg v
