-- Which aggregator a port chooses (profile).
use Rattle.std.specs.Prelude.{ℕ, ◌==◌, nat_le, Bool, not, ◌&&◌, List, length, take, filter, find, if◌then◌else◌, Option, Some, None}
use Rattle.std.specs.List.{list_any, list_all, enumerate_from}
use Rattle.std.specs.Option.{option_map}
use Rattle.lagtypes.specs.declared.identifiers.AggId.{AggId}
use Rattle.lagtypes.specs.declared.identifiers.Key.{Key}
use Rattle.lagtypes.specs.Group.{group_of, individual}
use Rattle.selection.specs.declared.view.PortView.{PortView}
use Rattle.lagtypes.specs.Same.{same_group}
use Rattle.selection.specs.Views.{is_eligible, has_chosen, occupies, find_view}

-- the first 65535 keys: as many as there are aggregator numbers
unfoldable pub first_65535 : List Key → List Key
first_65535 keys = take 65535 keys

-- there is such an aggregator; they are numbered from 1
abbrev pub is_aggregator : List Key → AggId → Bool
is_aggregator keys agg = nat_le 1 agg.0 && nat_le agg.0 (length keys)

-- the SELECTED ports that have chosen this aggregator: its members
abbrev pub ports_that_chose : AggId → List PortView → List PortView
ports_that_chose agg views = filter (λ w. has_chosen agg w.choice) views

-- the SELECTED and STANDBY ports that have chosen this aggregator: its occupants
abbrev pub occupants : AggId → List PortView → List PortView
occupants agg views = filter (λ w. occupies agg w.choice) views

-- some port occupies this aggregator
abbrev pub has_occupant : List PortView → AggId → Bool
has_occupant views agg = list_any (λ w. occupies agg w.choice) views

-- the links of both ports have the same group
abbrev pub has_group_of : PortView → PortView → Bool
has_group_of v w = same_group (group_of w.party w.partner) (group_of v.party v.partner)

-- the aggregator has an occupant, and all its occupants have the port's group, which is not Individual
abbrev pub occupants_share_group : List PortView → PortView → AggId → Bool
occupants_share_group views v agg =
    (not (individual v.party v.partner) && has_occupant views agg) && list_all (has_group_of v) (occupants agg views)

-- no port occupies this aggregator
abbrev pub has_no_occupant : List PortView → AggId → Bool
has_no_occupant views agg = not (has_occupant views agg)

-- the aggregator of an entry, which has its number and its key
abbrev pub aggregator_of_entry : ℕ × Key → AggId
aggregator_of_entry row = record { 0 = row.0 }

-- the lowest aggregator with this key that passes the test; the first key of the list is that of the aggregator with
-- the first argument as its number
abbrev pub lowest_from : ℕ → List Key → Key → (AggId → Bool) → Option AggId
lowest_from first keys key test =
    option_map aggregator_of_entry (find (λ row. (row.1.0 == key.0) && test (aggregator_of_entry row)) (enumerate_from first keys))

-- the lowest aggregator of the system with this key that passes the test
abbrev pub lowest : List Key → Key → (AggId → Bool) → Option AggId
lowest keys key test = lowest_from 1 keys key test

-- the first aggregator if there is one, else the second
abbrev pub or_else : Option AggId → Option AggId → Option AggId
or_else None other = other
or_else (Some agg) other = Some agg

-- the lowest aggregator with the port's key that it can join, else the lowest with that key and no occupant
abbrev pub chosen_if_eligible : List Key → List PortView → PortView → Option AggId
chosen_if_eligible keys views v =
    or_else (lowest keys v.party.key (occupants_share_group views v)) (lowest keys v.party.key (has_no_occupant views))

-- the aggregator that the port of this view chooses; None without a view, or if the port is not eligible
abbrev pub chosen_for_view : List Key → List PortView → Option PortView → Option AggId
chosen_for_view keys views None = None
chosen_for_view keys views (Some v) = if is_eligible v then chosen_if_eligible keys views v else None

-- the aggregator that the port with this number chooses
abbrev pub chosen_aggregator : List Key → List PortView → ℕ → Option AggId
chosen_aggregator keys views port = chosen_for_view keys views (find_view views port)
