-- A limit on the links of an aggregator, and aggregators that are not in use: which one has room, and which STANDBY port comes next (6.4.14;
-- profile).
use Rattle.std.specs.Prelude.{◌≡◌, ℕ, ◌+◌, ◌&&◌, nat_lt, Bool, true, false, List, [], ◌∷◌, length, if◌then◌else◌, Option, Some}
use Rattle.std.specs.Prelude.{None, slice_get, All, option_map, ◌-◌, get_or, slice_set}
use Rattle.std.specs.Ordering.{is_lt}
use Rattle.lagtypes.specs.declared.identifiers.AggId.{AggId}
use Rattle.lagtypes.specs.declared.identifiers.Key.{Key}
use Rattle.lagtypes.specs.declared.party.Choice.TheVariants.{Standby}
use Rattle.lagtypes.specs.Order.{port_cmp}
use Rattle.selection.specs.declared.limits.StandbyRow.{StandbyRow}
use Rattle.selection.specs.declared.view.PortView.{PortView}
use Rattle.selection.specs.Views.{stands_by}
use Rattle.selection.specs.Choice.{ports_that_chose, is_aggregator}

-- the aggregators of a system, as contracts see them: their keys; how many members each may have, None: any number; and whether each is in
-- use
pub record AggregatorsValue : Type 0 where
  pub keys : List Key
  pub max_links : Option ℕ
  pub in_use : List Bool

-- whether the aggregator is in use, where there is such an aggregator
abbrev pub is_in_use : List Bool → AggId → Bool
is_in_use in_use agg = get_or in_use (agg.0 - 1) true

-- the aggregator is put in use, or out of use, if there is such an aggregator
abbrev pub with_use : List Key → AggId → Bool → List Bool → List Bool
with_use keys agg now in_use = if is_aggregator keys agg then slice_set in_use (agg.0 - 1) now else in_use

-- one more may be added to this many
abbrev pub is_below : Option ℕ → ℕ → Bool
is_below None count = true
is_below (Some most) count = nat_lt count most

-- there is such an aggregator, it is in use, and it has fewer members than the limit
abbrev pub has_room : AggregatorsValue → List PortView → AggId → Bool
has_room aggs views agg =
    (is_aggregator aggs.keys agg && is_in_use aggs.in_use agg) && is_below aggs.max_links (length (ports_that_chose agg views))

-- the first port has a lower port identifier than the port of this row; so it has if there is no row
abbrev pub is_before : PortView → Option StandbyRow → Bool
is_before v None = true
is_before v (Some best) = is_lt (port_cmp v.party.port best.port.party.port)

-- this row if its port is STANDBY with the aggregator and has a lower port identifier, else the best so far
abbrev pub better_row : AggId → Option StandbyRow → StandbyRow → Option StandbyRow
better_row agg best row = if stands_by agg row.port.choice && is_before row.port best then Some row else best

-- the STANDBY port of the aggregator with the lowest port identifier, with its index: of the best so far and the ports of
-- this list, whose first has this index
abbrev pub lowest_standby_from : AggId → ℕ → Option StandbyRow → List PortView → Option StandbyRow
lowest_standby_from agg index best [] = best
lowest_standby_from agg index best (v ∷ vs) =
    lowest_standby_from agg (index + 1) (better_row agg best (record { index = index; port = v })) vs

-- the STANDBY port that comes next in the aggregator, with its index: the one with the lowest port identifier, if there is
-- room
abbrev pub next_standby_row : AggregatorsValue → List PortView → AggId → Option StandbyRow
next_standby_row aggs views agg = if has_room aggs views agg then lowest_standby_from agg 0 None views else None

-- the index of a row
abbrev pub row_index : StandbyRow → ℕ
row_index row = row.index

-- the port number of a row
abbrev pub row_number : StandbyRow → ℕ
row_number row = row.port.number

-- the index of the STANDBY port that comes next in the aggregator
abbrev pub next_standby_index : AggregatorsValue → List PortView → AggId → Option ℕ
next_standby_index aggs views agg = option_map row_index (next_standby_row aggs views agg)

-- the number of the STANDBY port that comes next in the aggregator
abbrev pub next_standby : AggregatorsValue → List PortView → AggId → Option ℕ
next_standby aggs views agg = option_map row_number (next_standby_row aggs views agg)

-- The port at this index comes next in the aggregator: that has room, the port is STANDBY with it, and no STANDBY port
-- of it has a lower port identifier.
pub record IsNext (aggs : AggregatorsValue) (views : List PortView) (agg : AggId) (index : ℕ) : Type 0 where
  pub port : PortView
  pub room : has_room aggs views agg ≡ true
  pub there : slice_get views index ≡ Some port
  pub standby : port.choice ≡ Standby agg
  pub lowest : All (λ w. w.choice ≡ Standby agg → is_lt (port_cmp w.party.port port.party.port) ≡ false) views

-- this is the number of the port that comes next in the aggregator
abbrev pub IsNumberOfNext : AggregatorsValue → List PortView → AggId → ℕ → Type 0
IsNumberOfNext aggs views agg number = (index : ℕ) × (next : IsNext aggs views agg index) × (next.port.number ≡ number)
