-- The variable Selected of a port, with its aggregator (6.4.8).
use Rattle.std.specs.Prelude.{Bool, true, false}
use Rattle.lagtypes.specs.declared.party.Choice.{Choice}
use Rattle.lagtypes.specs.declared.party.Choice.TheVariants.{Unselected, Selected, Standby}

-- SELECTED
abbrev pub is_selected : Choice → Bool
is_selected Unselected = false
is_selected (Selected agg) = true
is_selected (Standby agg) = false

-- UNSELECTED
abbrev pub is_unselected : Choice → Bool
is_unselected Unselected = true
is_unselected (Selected agg) = false
is_unselected (Standby agg) = false

-- STANDBY
abbrev pub is_standby : Choice → Bool
is_standby Unselected = false
is_standby (Selected agg) = false
is_standby (Standby agg) = true
