-- What the readers of a system return.
use Rattle.std.specs.Prelude.{ℕ, ◌+◌, ◌*◌, ◌%◌, Bool, ◌&&◌, List, length, slice_index, bit_xor, filter, map, Option, Some, None, nat_lt}
use Rattle.std.specs.Prelude.{if◌then◌else◌}
use Rattle.lagtypes.specs.declared.group.Group.{Group}
use Rattle.lagtypes.specs.declared.identifiers.AggId.{AggId}
use Rattle.lagtypes.specs.declared.party.Choice.{Choice}
use Rattle.lagtypes.specs.declared.party.Choice.TheVariants.{Unselected, Selected, Standby}
use Rattle.lagtypes.specs.Group.{group_of}
use Rattle.portmachines.specs.declared.mux.MuxState.TheVariants.{CollectingDistributing}
use Rattle.portmachines.specs.Machines.{Machines}
use Rattle.portmachines.specs.Mux.{same_mux_state}
use Rattle.selection.specs.Views.{has_chosen}
use Rattle.slowpdu.specs.Parties.{party_of}
use Rattle.lagsystem.specs.declared.system_ports.SystemPort.{SystemPort}
use Rattle.lagsystem.specs.State.{SystemState}

-- the Link Aggregation Group of a port: from its own and its recorded partner's parameters
abbrev pub group_at : Machines → Group
group_at p = group_of p.party (party_of p.partner)

-- the port is a member of the aggregator and its mux machine distributes
abbrev pub distributes_in : AggId → SystemPort → Bool
distributes_in agg s = has_chosen agg s.port.choice && same_mux_state CollectingDistributing s.port.mux

-- the aggregator of which a port is a member; None if it is UNSELECTED or STANDBY
abbrev pub selected_aggregator : Choice → Option AggId
selected_aggregator Unselected = None
selected_aggregator (Selected agg) = Some agg
selected_aggregator (Standby agg) = None

-- the aggregator in which the port collects (6.2.3)
abbrev pub collecting : Machines → Option AggId
collecting p = if same_mux_state CollectingDistributing p.mux then selected_aggregator p.choice else None

-- the aggregator with this number
abbrev pub aggregator_numbered : ℕ → AggId
aggregator_numbered g = record { 0 = g }

-- the numbers of the ports that distribute in the aggregator, ascending
abbrev pub distributing : AggId → List SystemPort → List ℕ
distributing agg system_ports = map (λ s. s.number) (filter (distributes_in agg) system_ports)

-- how many conversations each aggregator has; they are numbered from 0 (profile)
abbrev pub conversation_count : SystemState → ℕ
conversation_count s = s.conversations

-- the number that two octets make, from this offset on
abbrev pub two_octets : List ℕ → ℕ → ℕ
two_octets octets offset = slice_index octets offset * 256 + slice_index octets (offset + 1)

-- the conversation of a frame: the last two octets of its destination address exclusive-or those of its source, of which
-- the low 8 bits count if there are 256 conversations, the low 12 if there are 4096, and none if there is one (profile)
abbrev pub number_of_conversation : SystemState → List ℕ → ℕ
number_of_conversation s octets = bit_xor (two_octets octets 4) (two_octets octets 10) % conversation_count s

-- the conversation of a frame; None below 14 octets
abbrev pub conversation_in : SystemState → List ℕ → Option ℕ
conversation_in s octets = if nat_lt (length octets) 14 then None else Some (number_of_conversation s octets)
