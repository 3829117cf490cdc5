-- What the Selection Logic reads of the ports of one system.
use Rattle.std.specs.Prelude.{ℕ, ◌≤◌, ◌==◌, Bool, true, false, not, ◌&&◌, List, length, map, find, Option}
use Rattle.std.specs.List.Sorted.{IsStrictlyIncreasing}
use Rattle.lagtypes.specs.declared.identifiers.AggId.{AggId}
use Rattle.lagtypes.specs.declared.party.Choice.{Choice}
use Rattle.lagtypes.specs.declared.party.Choice.TheVariants.{Unselected, Selected, Standby}
use Rattle.selection.specs.declared.view.PortView.{PortView}
use Rattle.selection.specs.declared.view.Stage.{Stage}
use Rattle.selection.specs.declared.view.Stage.TheVariants.{Detached, Waiting, Joined}
use Rattle.lagtypes.specs.Choices.{is_unselected}
use Rattle.lagtypes.specs.Same.{same_system}

-- the port numbers of the views, in their order
abbrev pub numbers : List PortView → List ℕ
numbers views = map (λ v. v.number) views

-- at most 64 ports, with strictly ascending numbers
pub record AreViews (views : List PortView) : Type 0 where
  pub few : length views ≤ 64
  pub ascending : IsStrictlyIncreasing (numbers views)

-- the view of the port with this number, if there is one
abbrev pub find_view : List PortView → ℕ → Option PortView
find_view views port = find (λ v. v.number == port) views

-- the port is SELECTED and has chosen this aggregator
abbrev pub has_chosen : AggId → Choice → Bool
has_chosen agg Unselected = false
has_chosen agg (Selected given) = given.0 == agg.0
has_chosen agg (Standby given) = false

-- the port is STANDBY and has chosen this aggregator
abbrev pub stands_by : AggId → Choice → Bool
stands_by agg Unselected = false
stands_by agg (Selected given) = false
stands_by agg (Standby given) = given.0 == agg.0

-- the port is SELECTED or STANDBY and has chosen this aggregator: it occupies the aggregator
abbrev pub occupies : AggId → Choice → Bool
occupies agg Unselected = false
occupies agg (Selected given) = given.0 == agg.0
occupies agg (Standby given) = given.0 == agg.0

-- DETACHED
abbrev pub is_detached : Stage → Bool
is_detached Detached = true
is_detached (Waiting expired) = false
is_detached Joined = false

-- DETACHED or WAITING
abbrev pub is_detached_or_waiting : Stage → Bool
is_detached_or_waiting Detached = true
is_detached_or_waiting (Waiting expired) = true
is_detached_or_waiting Joined = false

-- WAITING with wait_while expired
abbrev pub has_waited : Stage → Bool
has_waited Detached = false
has_waited (Waiting expired) = expired
has_waited Joined = false

-- the port may choose an aggregator: its link is up, its receive machine is in CURRENT or DEFAULTED, its mux machine is
-- in DETACHED, it is UNSELECTED, and its partner is not its own system (profile)
abbrev pub is_eligible : PortView → Bool
is_eligible v =
    (((v.enabled && v.settled) && is_detached v.stage) && is_unselected v.choice)
    && not (same_system v.partner.system v.party.system)
