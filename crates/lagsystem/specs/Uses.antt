-- Which aggregators of a running system are in use (6.4.8, 6.4.14; profile).
use Rattle.std.specs.Prelude.{◌≡◌, ◌==◌, ◌&&◌, Bool, true, not, if◌then◌else◌, Option, Some, None, List}
use Rattle.lagtypes.specs.declared.identifiers.AggId.{AggId}
use Rattle.lagtypes.specs.declared.party.Choice.{Choice}
use Rattle.lagtypes.specs.declared.party.Choice.TheVariants.{Unselected, Selected, Standby}
use Rattle.selection.specs.Limits.{is_in_use, with_use}
use Rattle.lagsystem.specs.Offers.{has_aggregator}
use Rattle.lagsystem.specs.Settling.{PortsChangeBy}
use Rattle.lagsystem.specs.State.{SystemState, with_system_ports}

-- Selected of a port when an aggregator is put in use, or out of use: a member of one that is put out of use becomes STANDBY
abbrev pub choice_with_use : AggId → Bool → Choice → Choice
choice_with_use agg now Unselected = Unselected
choice_with_use agg now (Selected given) = if not now && (given.0 == agg.0) then Standby given else Selected given
choice_with_use agg now (Standby given) = Standby given

-- the aggregator is put in use, or out of use, and Selected of each port becomes what goes with it
abbrev pub PutsInUse : AggId → Bool → SystemState → SystemState → Type 0
PutsInUse agg now old new =
    PortsChangeBy (λ p q. q ≡ record p { choice = choice_with_use agg now p.choice }) old.system_ports new.system_ports
    × (new ≡ with_system_ports (record old { in_use = with_use old.keys agg now old.in_use }) new.system_ports)

-- whether the aggregator is in use; None if there is no such aggregator
abbrev pub in_use_at : AggId → SystemState → Option Bool
in_use_at agg s = if has_aggregator s agg then Some (is_in_use s.in_use agg) else None

-- each aggregator is in use
abbrev pub AllInUse : SystemState → Type 0
AllInUse s = (agg : AggId) → is_in_use s.in_use agg ≡ true
