-- A system, its calls and its replies, as the two-system theorem (lagmodel) sees them.
use Rattle.std.specs.Prelude.{◌≡◌, ℕ, zero, suc, Bool, true, not, ◌&&◌, ◌||◌, if◌then◌else◌, Option, Some, None, List, [], ◌∷◌, slice_get}
use Rattle.std.specs.Prelude.{option_map, Ok}
use Rattle.std.specs.List.{AllByRecursion}
use Rattle.lagtypes.specs.declared.identifiers.Key.{Key}
use Rattle.lagtypes.specs.declared.identifiers.SystemId.{SystemId}
use Rattle.lagtypes.specs.declared.party.Choice.{Choice}
use Rattle.lagtypes.specs.declared.party.Choice.TheVariants.{Unselected, Selected, Standby}
use Rattle.lagtypes.specs.declared.party.Party.{Party}
use Rattle.lagtypes.specs.States.{bits_of}
use Rattle.slowpdu.specs.declared.pdu.Lacpdu.{Lacpdu}
use Rattle.slowpdu.specs.declared.pdu.Marker.{Marker}
use Rattle.slowpdu.specs.declared.pdu.MarkerKind.{MarkerKind}
use Rattle.slowpdu.specs.declared.pdu.MarkerKind.TheVariants as kind
use Rattle.slowpdu.specs.declared.pdu.Pdu.{Pdu}
use Rattle.slowpdu.specs.declared.pdu.Pdu.TheVariants as pdu
use Rattle.slowpdu.specs.Frames.{frame_octets}
use Rattle.slowpdu.specs.Layout.{IsAddress}
use Rattle.slowpdu.specs.Pdus.{WritesPdu}
use Rattle.slowpdu.specs.Parties.{party_of}
use Rattle.portmachines.specs.declared.mux.MuxState.{MuxState}
use Rattle.portmachines.specs.declared.mux.MuxState.TheVariants.{CollectingDistributing}
use Rattle.portmachines.specs.declared.receive.ReceiveState.{ReceiveState}
use Rattle.portmachines.specs.declared.receive.ReceiveState.TheVariants.{Expired, Defaulted, Current}
use Rattle.portmachines.specs.Machines.{Machines}
use Rattle.portmachines.specs.Mux.{same_mux_state, is_synchronized, partner_synchronized, selected}
use Rattle.portmachines.specs.Receive.{receive_rows, same_receive_state}
use Rattle.portmachines.specs.Rows.{Row}
use Rattle.lagmodel.specs.View.{PortFacts, View, DistributorFacts, SystemSetup, ControlMessage, LacpMessage, Lacp, ModelCall}
use Rattle.lagmodel.specs.Move.{Act, Sends, Sends_frame, Took, LawfulMoves}
use Rattle.lagmodel.specs.Bridge.{ports_of, find_number}
use Rattle.lagsystem.specs.declared.received.Received.TheVariants.{TookLacpdu, Respond}
use Rattle.lagsystem.specs.declared.config.PortConfig.{PortConfig}
use Rattle.lagsystem.specs.declared.system_ports.SystemPort.{SystemPort}
use Rattle.distributor.specs.Moves.{model_distributor}
use Rattle.lagsystem.specs.State.{SystemState}
use Rattle.lagsystem.specs.First.{setup_of, configured_number}
use Rattle.lagsystem.specs.declared.drive.Reply.{Reply}
use Rattle.lagsystem.specs.declared.drive.Reply.TheVariants as reply
use Rattle.lagsystem.specs.Calls.{Call, Tick, Set_link, Receive, Configure, Restart, Transmit, Offer, Move_conversation, Force, IsFrame}
use Rattle.lagsystem.specs.Calls.{Carries}
use Rattle.lagsystem.specs.Readers.{number_of_conversation}

-- the number of the aggregator of which a port is a member; None if it is UNSELECTED or STANDBY
abbrev pub selected_number : Choice → Option ℕ
selected_number Unselected = None
selected_number (Selected agg) = Some agg.0
selected_number (Standby agg) = None

-- A port in the model: it distributes if its mux machine does and no mux row is about to stop it. There is such a row
-- only during settling, the six steps after a call (specs/Settling).
abbrev pub model_port : Machines → PortFacts
model_port p = record {
  party = p.party;
  partner = party_of p.partner;
  synchronized = partner_synchronized p;
  defaulted = p.defaulted;
  aggregator = selected_number p.choice;
  distributes = partner_synchronized p && (selected p && same_mux_state CollectingDistributing p.mux);
}

-- the number of a port of a system
abbrev pub number_of_port : SystemPort → ℕ
number_of_port s = s.number

-- a port of a system, as the model has it
abbrev pub model_port_of : SystemPort → PortFacts
model_port_of s = model_port s.port

-- the view of a system with these conversations and ports
abbrev pub model_view_at : DistributorFacts → List SystemPort → View
model_view_at f system_ports = record { port = ports_of number_of_port model_port_of system_ports; flows = f }

-- a system, as the model has it
abbrev pub model_view : SystemState → View
model_view s = model_view_at (model_distributor s.table) s.system_ports

-- the key of an aggregator; aggregators are numbered from 1
abbrev pub key_of : List Key → ℕ → Option Key
key_of keys zero = None
key_of keys (suc n) = slice_get keys n

-- the own parameters of a port, from its configuration
abbrev pub configured_party : SystemId → PortConfig → Party
configured_party system c = (setup_of system c).party

-- the configuration of a system, as the model has it
abbrev pub model_setup : SystemState → SystemSetup
model_setup s = record {
  system = s.system;
  party = λ p. option_map (configured_party s.system) (find_number configured_number s.ports p);
  key = key_of s.keys;
  first_marker = s.first_marker;
}

-- an LACPDU as the model has it
abbrev pub lacp_message : Lacpdu → LacpMessage
lacp_message v = record { actor = party_of v.actor; partner = party_of v.partner; synchronized = (bits_of v.actor.state).synchronization }

-- a marker or its response as the model has it
abbrev pub marker_message : MarkerKind → Marker → ControlMessage
marker_message kind.Information m = ControlMessage.Marker m.system m.port m.id
marker_message kind.Response m = ControlMessage.Response m.system m.port m.id

-- a PDU as the model has it
abbrev pub control_message : Pdu → ControlMessage
control_message (pdu.Lacpdu v) = Lacp (lacp_message v)
control_message (pdu.Marker m) = marker_message m.kind m

-- These received octets are a control frame with this PDU. With None they may be any octets: to the model, something
-- else than a control PDU came.
abbrev pub FrameSeenAs : List ℕ → Option ControlMessage → Type 0
FrameSeenAs octets None = Unit {0}
FrameSeenAs octets (Some message) = (payload : Pdu) × IsFrame octets (Carries payload) × (message ≡ control_message payload)

-- the call, as the model has it
abbrev pub CallSeenAs : Call → ModelCall → Type 0
CallSeenAs Tick model_call = model_call ≡ ModelCall.Tick
CallSeenAs (Set_link n up) model_call = model_call ≡ ModelCall.Set_link n up
CallSeenAs (Receive n octets) model_call = (o : Option ControlMessage) × FrameSeenAs octets o × (model_call ≡ ModelCall.Receive n o)
CallSeenAs (Configure n change) model_call = model_call ≡ ModelCall.Configure
CallSeenAs Restart model_call = model_call ≡ ModelCall.Restart
CallSeenAs (Transmit n) model_call = model_call ≡ ModelCall.Transmit
CallSeenAs (Offer agg octets) model_call = model_call ≡ ModelCall.Offer
CallSeenAs (Move_conversation agg conv port) model_call = model_call ≡ ModelCall.Move_conversation
CallSeenAs (Force agg conv) model_call = model_call ≡ ModelCall.Force agg.0 conv

-- the octets are a control frame with this PDU, from some MAC address
abbrev pub IsSent : List ℕ → Pdu → Type 0
IsSent octets payload = (mac : List ℕ) × (written : List ℕ) × IsAddress mac × WritesPdu written payload
    × (octets ≡ frame_octets mac written)

-- the visible acts of a call, as its reply has them: the LACPDU that was processed, the PDU of the frame to send, or
-- the conversation of a client's frame and the port to send it on
abbrev pub EffectsSeenAs : SystemState → Call → Reply → List Act → Type 0
EffectsSeenAs s (Receive n octets) (reply.Receive (Ok TookLacpdu)) acts = (v : Lacpdu) × IsFrame octets (Carries (pdu.Lacpdu v))
    × (acts ≡ Took n (lacp_message v) ∷ [])
EffectsSeenAs s (Receive n octets) (reply.Receive (Ok (Respond frame))) acts = (m : Marker) × IsSent frame (pdu.Marker m)
    × (acts ≡ Sends n (marker_message m.kind m) ∷ [])
EffectsSeenAs s (Transmit n) (reply.Transmit (Ok (Some frame))) acts = (payload : Pdu) × IsSent frame payload
    × (acts ≡ Sends n (control_message payload) ∷ [])
EffectsSeenAs s (Offer agg octets) (reply.Offer (Ok port)) acts = acts ≡ Sends_frame port agg.0 (number_of_conversation s octets) ∷ []
EffectsSeenAs s call answer acts = acts ≡ []

-- promise: each call is a list of moves that the law allows, from the view before to the view after; its octets and its reply show what
--    others see of them
-- contract: `answers` (`moves`: `JoinedByLawfulMoves`, `EffectsSeenAs`)
-- the model allows this call: its lawful moves lead from the view before the call to the view after it, with just these
-- visible acts
abbrev pub JoinedByLawfulMoves : SystemState → Call → Reply → SystemState → Type 0
JoinedByLawfulMoves old call reply new =
    (model_call : ModelCall) × (acts : List Act) × CallSeenAs call model_call × EffectsSeenAs old call reply acts
    × LawfulMoves (model_setup old) model_call (model_view old) acts (model_view new)

-- the receive states in which an LACPDU is processed
abbrev pub can_receive_in : ReceiveState → Bool
can_receive_in s = (same_receive_state Expired s || same_receive_state Defaulted s) || same_receive_state Current s

-- a port whose link is up is in a state in which it processes LACPDUs
abbrev pub can_receive : Machines → Bool
can_receive p = if p.enabled then can_receive_in p.receive else true

-- in ATTACHED and COLLECTING_DISTRIBUTING the port is SELECTED; in the latter, its partner is also synchronized
abbrev pub mux_consistent_of : MuxState → Bool → Bool → Bool
mux_consistent_of mux is_port_selected is_partner_synchronized =
    (if is_synchronized mux then is_port_selected else true)
    && (if same_mux_state CollectingDistributing mux then is_partner_synchronized else true)

-- the same of the mux machine of a port
abbrev pub mux_consistent : Machines → Bool
mux_consistent p = mux_consistent_of p.mux (selected p) (partner_synchronized p)

-- no row of the table is enabled
abbrev pub none_enabled : List Row → Machines → Bool
none_enabled [] p = true
none_enabled (row ∷ rows) p = not (row.enabled p) && none_enabled rows p

-- the receive machine of every port is at rest
abbrev pub ReceivesAtRest : List SystemPort → Type 0
ReceivesAtRest system_ports = AllByRecursion (λ x. none_enabled receive_rows x.port ≡ true) system_ports

-- the mux machine of every port fits its Selected and its partner
abbrev pub MuxesConsistent : List SystemPort → Type 0
MuxesConsistent system_ports = AllByRecursion (λ x. mux_consistent x.port ≡ true) system_ports

-- these hold of each port after every call
abbrev pub PortsConsistent : List SystemPort → Type 0
PortsConsistent system_ports = ReceivesAtRest system_ports × MuxesConsistent system_ports
