-- What each call of `drive` does, as a relation between the states before and after it.
use Rattle.std.specs.Prelude.{◌≡◌, ◌≤◌, ◌<◌, ◌⊎◌, ℕ, Bool, true, false, List, [], ◌∷◌, length, drop, ◌==◌, ◌&&◌, Option, Some, None}
use Rattle.std.specs.Prelude.{slice_get, slice_set, Ok, Err}
use Rattle.std.specs.Bool.{IsFalse}
use Rattle.std.specs.Str.{bytes_eq}
use Rattle.lagtypes.specs.declared.identifiers.AggId.{AggId}
use Rattle.lagtypes.specs.declared.party.Choice.{Choice}
use Rattle.lagtypes.specs.declared.party.Choice.TheVariants.{Unselected}
use Rattle.lagtypes.specs.declared.party.Party.{Party}
use Rattle.slowpdu.specs.declared.pdu.Lacpdu.{Lacpdu}
use Rattle.slowpdu.specs.declared.pdu.Marker.{Marker}
use Rattle.slowpdu.specs.declared.pdu.Pdu.{Pdu}
use Rattle.slowpdu.specs.declared.pdu.Pdu.TheVariants as pdu
use Rattle.slowpdu.specs.declared.fault.WireFault.{WireFault}
use Rattle.slowpdu.specs.Faults.{fault_of}
use Rattle.slowpdu.specs.Frames.{IsSlowProtocolsFrame, frame_octets}
use Rattle.slowpdu.specs.Layout.{IsAddress}
use Rattle.slowpdu.specs.Markers.{WritesMarker, response_to}
use Rattle.slowpdu.specs.Pdus.{ReadsPdu}
use Rattle.collector.specs.Collecting.{IsDataFrame}
use Rattle.collector.specs.declared.Taken.{Taken}
use Rattle.collector.specs.declared.Taken.TheVariants as taken
use Rattle.distributor.specs.Changes.{ChangesAssignments, after_down, after_release, after_tick, awaits_response}
use Rattle.distributor.specs.Conversations.{Table, count_conversations}
use Rattle.portmachines.specs.Machines.{Machines}
use Rattle.lagtypes.specs.Same.{same_party}
use Rattle.portmachines.specs.Receive.{receive_rows, lacpdu_rows}
use Rattle.portmachines.specs.Rows.{RunsToRest, FiresIfEnabled}
use Rattle.portmachines.specs.Start.{Starts}
use Rattle.portmachines.specs.Transmit.{count_down}
use Rattle.lagsystem.specs.declared.received.FrameEffect.{FrameEffect}
use Rattle.lagsystem.specs.declared.received.FrameEffect.TheVariants.{ProcessLacpdu, Response, Answered}
use Rattle.lagsystem.specs.declared.received.Received.{Received}
use Rattle.lagsystem.specs.declared.received.Received.TheVariants.{Disabled, Dropped, Ignored, TookLacpdu, Respond, Released, Up}
use Rattle.lagsystem.specs.declared.config.PortChange.{PortChange}
use Rattle.lagsystem.specs.declared.drive.Reply.{Reply}
use Rattle.lagsystem.specs.declared.drive.Reply.TheVariants as reply
use Rattle.lagsystem.specs.declared.fault.SystemFault.{SystemFault}
use Rattle.lagsystem.specs.declared.fault.SystemFault.TheVariants.{NoPort}
use Rattle.lagsystem.specs.declared.system_ports.SystemPort.{SystemPort}
use Rattle.lagsystem.specs.First.{IsFirst}
use Rattle.lagsystem.specs.Readers.{collecting}
use Rattle.lagsystem.specs.Offers.{GivesOrRefuses, Offers, system_force_result, system_move_result}
use Rattle.lagsystem.specs.Sending.{TransmitsAt}
use Rattle.lagsystem.specs.Settling.{PortsChangeBy, Settling}
use Rattle.lagsystem.specs.State.{SystemState, with_system_ports, with_table, port_index, system_port_at}

-- the calls, with their arguments
pub data Call : Type 0 where
  Receive : (port : ℕ) (octets : List ℕ) → Call
  Tick : Call
  Set_link : (port : ℕ) (up : Bool) → Call
  Configure : (port : ℕ) (change : PortChange) → Call
  Restart : Call
  Transmit : (port : ℕ) → Call
  Offer : (agg : AggId) (octets : List ℕ) → Call
  Move_conversation : (agg : AggId) (conv port : ℕ) → Call
  Force : (agg : AggId) (conv : ℕ) → Call

-- in the list, the machines of the port at this index change by the relation, and the other ports stay
abbrev pub PortAtChangesBy : (Machines → Machines → Type 0) → Option ℕ → List SystemPort → List SystemPort → Type 0
PortAtChangesBy R None old new = ⊥
PortAtChangesBy R (Some i) old new =
    (system_port : SystemPort) × (port : Machines) × (slice_get old i ≡ Some system_port) × R system_port.port port
    × (new ≡ slice_set old i (record system_port { port = port }))

-- the machines of the port at this index change by the relation, and nothing else changes
abbrev pub OnlyPortChangesBy : Option ℕ → (Machines → Machines → Type 0) → SystemState → SystemState → Type 0
OnlyPortChangesBy index R old new = PortAtChangesBy R index old.system_ports new.system_ports
    × (new ≡ with_system_ports old new.system_ports)

-- there is a port at this index, and the predicate holds of its machines
abbrev pub HoldsAtIndex : (Machines → Type 0) → Option ℕ → List SystemPort → Type 0
HoldsAtIndex P None system_ports = ⊥
HoldsAtIndex P (Some i) system_ports = (system_port : SystemPort) × (slice_get system_ports i ≡ Some system_port) × P system_port.port

-- nothing changes
abbrev pub Unchanged : SystemState → SystemState → Type 0
Unchanged old new = new ≡ old

-- promise: a refusal names its cause and changes nothing
-- contract: `step` (`RefusesNoPort`, `RefusesOffer`, `GivesOrRefuses`)
-- there is no such port: the call is refused with NoPort, and nothing changes
pub record RefusesNoPort (index : Option ℕ) (fault : SystemFault) (old new : SystemState) : Type 0 where
  pub cause : index ≡ None
  pub named : fault ≡ NoPort
  pub same : Unchanged old new

-- the call's own effect, followed by one settling
abbrev pub ThenSettles : (SystemState → SystemState → Type 0) → SystemState → SystemState → Type 0
ThenSettles own old new = (mid : SystemState) × own old mid × Settling mid new

-- a tick: each port counts down, then changes its receive state if current_while expired; then each conversation that
-- waits for a response counts one tick more
abbrev pub Ticks : SystemState → SystemState → Type 0
Ticks old new =
    PortsChangeBy (λ p q. RunsToRest receive_rows (count_down p) q) old.system_ports new.system_ports
    × ChangesAssignments old.table new.table after_tick
    × (new ≡ with_table (with_system_ports old new.system_ports) new.table)

-- Selected of a port whose link is set: with a limit of links, UNSELECTED if the link is down; else it stays (profile)
abbrev pub choice_with_link : Option ℕ → Bool → Choice → Choice
choice_with_link None up choice = choice
choice_with_link (Some most) true choice = choice
choice_with_link (Some most) false choice = Unselected

-- port_enabled gets this value, and Selected what goes with it; then the receive machine runs until it is at rest
abbrev pub SetsPortEnabled : Option ℕ → Bool → Machines → Machines → Type 0
SetsPortEnabled max_links up p q = RunsToRest receive_rows (record p { enabled = up; choice = choice_with_link max_links up p.choice }) q

-- if the link is down, every conversation of the port with this number becomes free
abbrev pub FreesIfDown : Bool → ℕ → Table → Table → Type 0
FreesIfDown true port old new = new ≡ old
FreesIfDown false port old new = ChangesAssignments old new (after_down port)

-- port_enabled of the port with this number is set
abbrev pub SetsLink : ℕ → Bool → SystemState → SystemState → Type 0
SetsLink n up old new =
    PortAtChangesBy (SetsPortEnabled old.max_links up) (port_index n old.system_ports) old.system_ports new.system_ports
    × FreesIfDown up n old.table new.table
    × (new ≡ with_table (with_system_ports old new.system_ports) new.table)

-- the row of the receive machine for an LACPDU
abbrev pub ProcessesLacpdu : Lacpdu → Machines → Machines → Type 0
ProcessesLacpdu pdu p q = FiresIfEnabled (lacpdu_rows pdu) p q

-- the parameters of the port with the values of the change
abbrev pub changed_party : PortChange → Party → Party
changed_party c party = record party { key = c.key; port = record party.port { priority = c.priority }; aggregatable = c.aggregatable }

-- some value of the change differs from the port's
abbrev pub differs : PortChange → Machines → Type 0
differs c p = IsFalse (same_party (changed_party c p.party) p.party)

-- the port gets the values of the change, and its receive and mux machines start again
abbrev pub ChangesParty : PortChange → Machines → Machines → Type 0
ChangesParty c p q = differs c p × Starts (record p { party = changed_party c p.party }) q

-- the kinds of received frames
pub data ReceivedFrame : Type 0 where
  Runt : ReceivedFrame
  Data_frame : ReceivedFrame
  Faulty : (fault : WireFault) → ReceivedFrame
  Carries : (payload : Pdu) → ReceivedFrame

-- at least 14 octets, and the EtherType is that of the slow protocols
abbrev pub IsControlFrame : List ℕ → Type 0
IsControlFrame octets = (14 ≤ length octets) × IsSlowProtocolsFrame octets

-- these octets are a frame of this kind: fewer than 14 octets, a data frame, or a control frame whose payload has this
-- fault or reads as this PDU
abbrev pub IsFrame : List ℕ → ReceivedFrame → Type 0
IsFrame octets Runt = length octets < 14
IsFrame octets Data_frame = IsDataFrame octets
IsFrame octets (Faulty fault) = IsControlFrame octets × (fault_of (drop 14 octets) ≡ Some fault)
IsFrame octets (Carries payload) = IsControlFrame octets × ReadsPdu (drop 14 octets) payload

-- what receive answers for a data frame: it is handed up in the aggregator in which the port collects, or dropped if there
-- is none
abbrev pub up_or_dropped : Option AggId → Received
up_or_dropped None = Dropped
up_or_dropped (Some agg) = Up agg

-- the answer of receive that says what the collector does with a data frame
abbrev pub received_of : Taken → Received
received_of taken.Dropped = Dropped
received_of (taken.Up agg) = Up agg

-- a Marker PDU is answered by a response from this MAC address; a Marker Response asks for a release
abbrev pub AnswersMarker : List ℕ → Marker → Option Marker → FrameEffect → Type 0
AnswersMarker mac m None effect = effect ≡ Response m
AnswersMarker mac m (Some answer) effect = (payload : List ℕ) × IsAddress mac × WritesMarker payload answer
    × (effect ≡ Answered (Respond (frame_octets mac payload)))

-- what a frame asks for on a port whose link is up
abbrev pub GivesEffect : SystemPort → ReceivedFrame → FrameEffect → Type 0
GivesEffect system_port Runt effect = effect ≡ Answered Dropped
GivesEffect system_port Data_frame effect = effect ≡ Answered (up_or_dropped (collecting system_port.port))
GivesEffect system_port (Faulty fault) effect = effect ≡ Answered (Ignored fault)
GivesEffect system_port (Carries (pdu.Lacpdu v)) effect = effect ≡ ProcessLacpdu v
GivesEffect system_port (Carries (pdu.Marker m)) effect = AnswersMarker system_port.mac m (response_to m) effect

-- what the payload of a control frame asks for on a port whose link is up
abbrev pub ParsesPayload : SystemPort → List ℕ → FrameEffect → Type 0
ParsesPayload system_port payload effect =
    ((fault : WireFault) × (fault_of payload ≡ Some fault) × GivesEffect system_port (Faulty fault) effect)
    ⊎ ((v : Pdu) × ReadsPdu payload v × GivesEffect system_port (Carries v) effect)

-- what received octets ask for: nothing while the link is down, else what their frame asks for
abbrev pub ParsesWhere : Bool → SystemPort → List ℕ → FrameEffect → Type 0
ParsesWhere false system_port octets effect = effect ≡ Answered Disabled
ParsesWhere true system_port octets effect = (frame : ReceivedFrame) × IsFrame octets frame × GivesEffect system_port frame effect

-- promise: incoming octets have the grammar's reading or first fault; outgoing octets are the written payload in a control frame of 124
--    octets from the port's address
-- contract: `step` (`ParsesFrame`; `TransmitsAt`), `answers` (`moves`: `IsSent` of `ModelView`)
-- what received octets ask for on this port
abbrev pub ParsesFrame : SystemPort → List ℕ → FrameEffect → Type 0
ParsesFrame system_port octets effect = ParsesWhere system_port.port.enabled system_port octets effect

-- the response names this system and the port on which it came
abbrev pub is_own_response : SystemState → ℕ → Marker → Bool
is_own_response s port m = (m.port == port) && bytes_eq m.system s.system.mac

-- a response frees the conversations of this port that wait for it, if it names this system and port; else it frees
-- none
abbrev pub Releases : Bool → ℕ → Marker → SystemState → Received → SystemState → Type 0
Releases false port m old reply new = (reply ≡ Released 0) × Unchanged old new
Releases true port m old reply new =
    (reply ≡ Released (count_conversations (awaits_response port m.id) old.table))
    × ChangesAssignments old.table new.table (after_release port m.id)
    × (new ≡ with_table old new.table)

-- What a frame asked for is done, and this is the answer of receive: an LACPDU is processed, a response releases
-- conversations, and nothing else changes the system.
abbrev pub Performs : FrameEffect → ℕ → Option ℕ → SystemState → Received → SystemState → Type 0
Performs (ProcessLacpdu v) port index old reply new =
    (reply ≡ TookLacpdu) × ThenSettles (OnlyPortChangesBy index (ProcessesLacpdu v)) old new
Performs (Response m) port index old reply new = Releases (is_own_response old port m) port m old reply new
Performs (Answered answer) port index old reply new = (reply ≡ answer) × Unchanged old new

-- receive, of these octets on the port at this index
abbrev pub ReceivesAt : Option ℕ → List ℕ → SystemState → Received → SystemState → Type 0
ReceivesAt index octets old reply new =
    (system_port : SystemPort) × (effect : FrameEffect) × (system_port_at index old.system_ports ≡ Some system_port)
    × ParsesFrame system_port octets effect
    × Performs effect system_port.number index old reply new

-- the port at this index has the values of the change already
abbrev pub AlreadyConfigured : Option ℕ → PortChange → SystemState → Type 0
AlreadyConfigured index change s = HoldsAtIndex (λ p. same_party (changed_party change p.party) p.party ≡ true) index s.system_ports

-- In the state old, the call may have this reply and lead to the state new, if the algorithm may return the indices
-- that the first argument allows.
abbrev pub Step : (ℕ → ℕ → ℕ → Type 0) → SystemState → Call → Reply → SystemState → Type 0
Step gives old Tick reply.Tick new = ThenSettles Ticks old new
Step gives old (Set_link n up) (reply.SetLink (Ok done)) new = ThenSettles (SetsLink n up) old new
Step gives old (Set_link n up) (reply.SetLink (Err fault)) new = RefusesNoPort (port_index n old.system_ports) fault old new
Step gives old (Receive n octets) (reply.Receive (Ok answer)) new = ReceivesAt (port_index n old.system_ports) octets old answer new
Step gives old (Receive n octets) (reply.Receive (Err fault)) new = RefusesNoPort (port_index n old.system_ports) fault old new
Step gives old (Configure n change) (reply.Configure (Ok true)) new
    = ThenSettles (OnlyPortChangesBy (port_index n old.system_ports) (ChangesParty change)) old new
Step gives old (Configure n change) (reply.Configure (Ok false)) new = AlreadyConfigured (port_index n old.system_ports) change old
    × Unchanged old new
Step gives old (Configure n change) (reply.Configure (Err fault)) new = RefusesNoPort (port_index n old.system_ports) fault old new
Step gives old Restart reply.Restart new = (new ≡ with_table (with_system_ports old new.system_ports) new.table) × IsFirst new
Step gives old (Transmit n) (reply.Transmit (Ok answer)) new = TransmitsAt (port_index n old.system_ports) old answer new
Step gives old (Transmit n) (reply.Transmit (Err fault)) new = RefusesNoPort (port_index n old.system_ports) fault old new
Step gives old (Offer agg octets) (reply.Offer answer) new = Offers gives agg octets old answer new
Step gives old (Move_conversation agg conv port) (reply.MoveConversation answer) new =
    GivesOrRefuses agg conv (system_move_result old agg conv port) old answer new
Step gives old (Force agg conv) (reply.Force answer) new = GivesOrRefuses agg conv (system_force_result old agg conv) old answer new
Step gives old call answer new = ⊥

-- these calls, made one after another from the first state, may have these replies and lead to the last state
abbrev pub TableRun : (ℕ → ℕ → ℕ → Type 0) → SystemState → List Call → List Reply → SystemState → Type 0
TableRun gives old [] [] new = new ≡ old
TableRun gives old (call ∷ calls) (answer ∷ answers) new = (mid : SystemState) × Step gives old call answer mid
    × TableRun gives mid calls answers new
TableRun gives old [] (answer ∷ answers) new = ⊥
TableRun gives old (call ∷ calls) [] new = ⊥
