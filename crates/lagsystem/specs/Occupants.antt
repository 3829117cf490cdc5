-- What holds of the SELECTED and STANDBY ports that were given one aggregator, its occupants, and of its members.
use Rattle.std.specs.Prelude.{◌≡◌, ◌≢◌, ◌≤◌, ℕ, false, List, length, Option, Some, None, slice_get}
use Rattle.lagtypes.specs.declared.identifiers.AggId.{AggId}
use Rattle.lagtypes.specs.declared.identifiers.Key.{Key}
use Rattle.lagtypes.specs.declared.party.Choice.{Choice}
use Rattle.lagtypes.specs.declared.party.Choice.TheVariants.{Unselected, Selected, Standby}
use Rattle.lagtypes.specs.Group.{SamePair, individual}
use Rattle.selection.specs.declared.view.PortView.{PortView}
use Rattle.selection.specs.Choice.{ports_that_chose}
use Rattle.selection.specs.Joining.{ends}
use Rattle.selection.specs.Limits.{AggregatorsValue, next_standby_index}
use Rattle.lagsystem.specs.declared.system_ports.SystemPort.{SystemPort}
use Rattle.lagsystem.specs.ModelView.{key_of}
use Rattle.lagsystem.specs.Views.{selection_view}

-- the number of the aggregator that a port occupies, as SELECTED or as STANDBY; None if it is UNSELECTED
abbrev pub occupied : Choice → Option ℕ
occupied Unselected = None
occupied (Selected agg) = Some agg.0
occupied (Standby agg) = Some agg.0

-- The occupants of an aggregator have its key and one group (LAG ID), which is not Individual if they are two or more,
-- and no occupant has a partner of its own system.
pub record OccupantsAgree (keys : List Key) (system_ports : List SystemPort) : Type 0 where
  pub key : (i g : ℕ) (s : SystemPort) → slice_get system_ports i ≡ Some s → occupied s.port.choice ≡ Some g
      → key_of keys g ≡ Some s.port.party.key
  pub apart : (i g : ℕ) (s : SystemPort) → slice_get system_ports i ≡ Some s → occupied s.port.choice ≡ Some g
      → (selection_view s).partner.system ≢ s.port.party.system
  pub group : (g i j : ℕ) (s t : SystemPort) → (i ≡ j → ⊥) → slice_get system_ports i ≡ Some s → slice_get system_ports j ≡ Some t
      → occupied s.port.choice ≡ Some g → occupied t.port.choice ≡ Some g
      → SamePair (ends (selection_view s)) (ends (selection_view t))
      × (individual (selection_view s).party (selection_view s).partner ≡ false)

-- no aggregator has more members than this limit
abbrev pub WithinLimit : Option ℕ → List PortView → Type 0
WithinLimit None seen = Unit {0}
WithinLimit (Some most) seen = (agg : AggId) → length (ports_that_chose agg seen) ≤ most

-- no STANDBY port comes next in any aggregator
abbrev pub NoneIsNext : AggregatorsValue → List PortView → Type 0
NoneIsNext aggs seen = (agg : AggId) → next_standby_index aggs seen agg ≡ None
