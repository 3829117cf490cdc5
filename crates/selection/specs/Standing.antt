-- How an aggregator stands to a port that chooses.
use Rattle.std.specs.Prelude.{◌≡◌, ℕ, ◌+◌, ◌<◌, ◌==◌, ◌&&◌, Bool, not, List, get_or, length, if◌then◌else◌}
use Rattle.lagtypes.specs.declared.identifiers.AggId.{AggId}
use Rattle.lagtypes.specs.declared.group.End.{End}
use Rattle.lagtypes.specs.declared.party.Party.{Party}
use Rattle.lagtypes.specs.Group.{individual}
use Rattle.lagtypes.specs.Same.{same_system}
use Rattle.selection.specs.declared.standings.Standing.{Standing}
use Rattle.selection.specs.declared.standings.Standing.TheVariants.{Empty, Joinable, Taken}
use Rattle.selection.specs.declared.view.PortView.{PortView}
use Rattle.selection.specs.Views.{occupies}
use Rattle.selection.specs.Choice.{has_group_of, has_no_occupant, occupants_share_group}

-- it has no occupant, or the port can join its occupants, or neither
abbrev pub standing : List PortView → PortView → AggId → Standing
standing views v agg = if has_no_occupant views agg then Empty else (if occupants_share_group views v agg then Joinable else Taken)

-- the occupant has the port's group, which is not Individual
abbrev pub goes_with : PortView → PortView → Bool
goes_with v occupant = not (individual v.party v.partner) && has_group_of v occupant

-- how an aggregator stands once another port occupies it too, which goes with the port or not
abbrev pub with_occupant : Bool → Standing → Standing
with_occupant goes Empty = if goes then Joinable else Taken
with_occupant goes Joinable = if goes then Joinable else Taken
with_occupant goes Taken = Taken

-- the same of a port that may be in another aggregator, or in none
abbrev pub with_port : AggId → PortView → PortView → Standing → Standing
with_port agg v other was = if occupies agg other.choice then with_occupant (goes_with v other) was else was

-- the aggregator at this place among those after a number
abbrev pub aggregator_after : ℕ → ℕ → AggId
aggregator_after before place = record { 0 = before + 1 + place }

abbrev pub standing_at : List Standing → ℕ → Standing
standing_at list place = get_or list place Empty

-- the 64 aggregators after a number stand so to the port
pub record Tells (views : List PortView) (v : PortView) (before : ℕ) (list : List Standing) : Type 0 where
  pub many : length list ≡ 64
  pub each : (place : ℕ) → place < 64 → standing_at list place ≡ standing views v (aggregator_after before place)

-- the end of a group has the key and the system of these parameters
abbrev pub has_side : End → Party → Bool
has_side end party = (end.key.0 == party.key.0) && same_system end.system party.system
