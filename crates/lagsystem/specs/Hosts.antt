-- What a user of a system asks: the state of a conversation, and whether a frame is due.
use Rattle.std.specs.Prelude.{ℕ, Bool, ◌&&◌, ◌||◌, Option, Some, None, is_some, nat_lt, if◌then◌else◌, option_map}
use Rattle.lagtypes.specs.declared.identifiers.AggId.{AggId}
use Rattle.portmachines.specs.Transmit.{is_due}
use Rattle.distributor.specs.declared.assignment.Assignment.{Assignment}
use Rattle.distributor.specs.Changes.{marker_due}
use Rattle.distributor.specs.Conversations.{assignment_of}
use Rattle.lagsystem.specs.declared.system_ports.SystemPort.{SystemPort}
use Rattle.lagsystem.specs.Offers.{has_aggregator}
use Rattle.lagsystem.specs.Readers.{conversation_count}
use Rattle.lagsystem.specs.State.{SystemState, port_index, system_port_at}

-- the state of a conversation of an aggregator; None if there is none of this number
abbrev pub conversation_at : SystemState → AggId → ℕ → Option Assignment
conversation_at s agg conv = if has_aggregator s agg && nat_lt conv (conversation_count s) then Some
    (assignment_of s.table agg.0 conv) else None

-- a frame is due on the port: its link is up, and an LACPDU is due or a marker is
abbrev pub would_transmit : SystemState → SystemPort → Bool
would_transmit s system_port = system_port.port.enabled && (is_due system_port.port || is_some (marker_due s.table system_port.number))

-- whether a frame is due on the port with this number; None if there is none
abbrev pub would_transmit_at : ℕ → SystemState → Option Bool
would_transmit_at n s = option_map (would_transmit s) (system_port_at (port_index n s.system_ports) s.system_ports)
