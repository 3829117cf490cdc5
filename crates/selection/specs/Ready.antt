-- The members of an aggregator, and when it is Ready (6.4.14).
use Rattle.std.specs.Prelude.{Bool, ◌&&◌, List, [], filter, if◌then◌else◌}
use Rattle.std.specs.List.{list_any, list_all}
use Rattle.lagtypes.specs.declared.identifiers.AggId.{AggId}
use Rattle.lagtypes.specs.declared.identifiers.Key.{Key}
use Rattle.selection.specs.declared.view.PortView.{PortView}
use Rattle.selection.specs.Views.{has_waited, is_detached_or_waiting}
use Rattle.selection.specs.Choice.{ports_that_chose, is_aggregator}

-- the SELECTED ports that were given this aggregator; none if there is no such aggregator
abbrev pub members : List Key → List PortView → AggId → List PortView
members keys views agg = if is_aggregator keys agg then ports_that_chose agg views else []

-- the members that are DETACHED or WAITING
abbrev pub detached_or_waiting : List Key → List PortView → AggId → List PortView
detached_or_waiting keys views agg = filter (λ v. is_detached_or_waiting v.stage) (members keys views agg)

-- at least one member is DETACHED or WAITING, and each of those is WAITING with wait_while expired
abbrev pub is_ready : List Key → List PortView → AggId → Bool
is_ready keys views agg =
    list_any (λ v. is_detached_or_waiting v.stage) (members keys views agg) && list_all (λ v. has_waited v.stage) (detached_or_waiting keys views agg)
