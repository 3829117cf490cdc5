-- Whether a port distributes, and else the first reason why not; its number, its name and its text (profile).
use Rattle.std.specs.Prelude.{ℕ, List, codes, not, nat_lt, if◌then◌else◌, Option, option_map}
use Rattle.lagtypes.specs.declared.party.Choice.{Choice}
use Rattle.lagtypes.specs.declared.party.Choice.TheVariants as choice
use Rattle.lagtypes.specs.Same.{same_system}
use Rattle.portmachines.specs.declared.mux.MuxState.TheVariants.{CollectingDistributing, Attached}
use Rattle.portmachines.specs.declared.receive.ReceiveState.{ReceiveState}
use Rattle.portmachines.specs.declared.receive.ReceiveState.TheVariants as receive
use Rattle.portmachines.specs.Machines.{Machines}
use Rattle.portmachines.specs.Mux.{same_mux_state}
use Rattle.lagsystem.specs.declared.port_status.PortStatus.{PortStatus}
use Rattle.lagsystem.specs.declared.port_status.PortStatus.TheVariants as status
use Rattle.lagsystem.specs.declared.system_ports.SystemPort.{SystemPort}
use Rattle.lagsystem.specs.State.{SystemState, port_index, system_port_at}

-- of a SELECTED port that has heard its partner: its mux machine is in ATTACHED; or wait_while runs; or it waits for others
abbrev pub status_when_selected : Machines → PortStatus
status_when_selected p =
    if same_mux_state Attached p.mux then status.PartnerNotSynchronized
    else (if nat_lt 0 p.wait_while then status.Waiting p.wait_while else status.WaitingForMembers)

-- by Selected, of a port that has heard its partner
abbrev pub status_by_choice : Machines → Choice → PortStatus
status_by_choice p choice.Unselected = status.NoAggregator
status_by_choice p (choice.Standby agg) = status.Standby agg
status_by_choice p (choice.Selected agg) = status_when_selected p

-- of a port that has heard its partner, which may be its own system
abbrev pub status_when_current : Machines → PortStatus
status_when_current p = if same_system p.partner.system p.party.system then status.OwnSystem else status_by_choice p p.choice

-- by the state of the receive machine, of a port whose link is up
abbrev pub status_by_receive : Machines → ReceiveState → PortStatus
status_by_receive p receive.Expired = status.NoLacpdu
status_by_receive p receive.Defaulted = status.OnDefaults
status_by_receive p receive.Current = status_when_current p
status_by_receive p receive.Initialize = status_when_current p
status_by_receive p receive.PortDisabled = status_when_current p

-- the status of a port: it distributes; else its link is down; else the host holds it; else by its receive machine
abbrev pub status_of_port : SystemPort → PortStatus
status_of_port s =
    if same_mux_state CollectingDistributing s.port.mux then status.Distributing
    else (if not s.port.enabled then status.LinkDown else (if s.held then status.Held else status_by_receive s.port s.port.receive))

-- the status of the port with this number; None if there is no such port
abbrev pub port_status_at : ℕ → SystemState → Option PortStatus
port_status_at n s = option_map status_of_port (system_port_at (port_index n s.system_ports) s.system_ports)

-- the number of a status, in the order of `PortStatus`
abbrev pub status_number : PortStatus → ℕ
status_number status.Distributing = 0
status_number status.LinkDown = 1
status_number status.NoLacpdu = 2
status_number status.OnDefaults = 3
status_number status.OwnSystem = 4
status_number status.NoAggregator = 5
status_number (status.Standby agg) = 6
status_number (status.Waiting ticks) = 7
status_number status.WaitingForMembers = 8
status_number status.PartnerNotSynchronized = 9
status_number status.Held = 10

-- the name of a status, in one word
abbrev pub status_name : PortStatus → List ℕ
status_name status.Distributing = codes "distributing"
status_name status.LinkDown = codes "link-down"
status_name status.NoLacpdu = codes "no-lacpdu"
status_name status.OnDefaults = codes "on-defaults"
status_name status.OwnSystem = codes "own-system"
status_name status.NoAggregator = codes "no-aggregator"
status_name (status.Standby agg) = codes "standby"
status_name (status.Waiting ticks) = codes "waiting"
status_name status.WaitingForMembers = codes "waiting-for-members"
status_name status.PartnerNotSynchronized = codes "partner-not-synchronized"
status_name status.Held = codes "held"

-- the text of a status, as Display writes it; neither the aggregator nor the ticks are told
abbrev pub status_text : PortStatus → List ℕ
status_text status.Distributing = codes "it distributes"
status_text status.LinkDown = codes "the link is down"
status_text status.NoLacpdu = codes "no LACPDU came in time"
status_text status.OnDefaults = codes "it runs on defaults"
status_text status.OwnSystem = codes "the partner is this very system"
status_text status.NoAggregator = codes "no aggregator has its key, or each that has it has ports of another group"
status_text (status.Standby agg) = codes "its aggregator has no room for one more link"
status_text (status.Waiting ticks) = codes "it waits for wait_while"
status_text status.WaitingForMembers = codes "it waits for other ports of its aggregator"
status_text status.PartnerNotSynchronized = codes "the partner is not synchronized"
status_text status.Held = codes "the host holds it"
