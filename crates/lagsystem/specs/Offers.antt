-- What offer, move_conversation and force do to the conversations (6.2.4; profile).
use Rattle.std.specs.Prelude.{◌≡◌, ◌⊎◌, ℕ, Bool, IsTrue, ◌&&◌, List, length, nat_le, nat_lt, if◌then◌else◌, is_some, Result, Ok, Err}
use Rattle.std.specs.Bool.{IsFalse}
use Rattle.lagtypes.specs.declared.identifiers.AggId.{AggId}
use Rattle.slowpdu.specs.Frames.{IsSlowProtocolsFrame}
use Rattle.distributor.specs.declared.assignment.Assignment.{Assignment}
use Rattle.distributor.specs.declared.assignment.Assignment.TheVariants.{On}
use Rattle.distributor.specs.declared.fault.DistFault.{DistFault}
use Rattle.distributor.specs.declared.fault.DistFault.TheVariants as dist
use Rattle.distributor.specs.Calls.{Assigns, force_result, move_result}
use Rattle.distributor.specs.Changes.{SetsAssignment}
use Rattle.distributor.specs.Conversations.{next_identifier, assignment_of}
use Rattle.lagsystem.specs.declared.fault.SystemFault.{SystemFault}
use Rattle.lagsystem.specs.declared.fault.SystemFault.TheVariants.{NoPort, NoAggregator, FrameLength, SlowFrame}
use Rattle.lagsystem.specs.Faults.{system_fault}
use Rattle.lagsystem.specs.Readers.{number_of_conversation, conversation_count, distributing}
use Rattle.lagsystem.specs.State.{SystemState, with_table, port_index}

-- the longest frame that may be offered: a full frame with one VLAN tag, in octets
unfoldable pub longest_frame : ℕ
longest_frame = 1518

-- the system has this aggregator; they are numbered from 1
abbrev pub has_aggregator : SystemState → AggId → Bool
has_aggregator s agg = nat_lt 0 agg.0 && nat_le agg.0 (length s.keys)

-- 14 to 1518 octets
abbrev pub is_frame_length : List ℕ → Bool
is_frame_length octets = nat_le 14 (length octets) && nat_le (length octets) longest_frame

-- the state of the conversation of a frame
abbrev pub assignment_of_frame : SystemState → AggId → List ℕ → Assignment
assignment_of_frame s agg octets = assignment_of s.table agg.0 (number_of_conversation s octets)

-- one conversation gets this state, and nothing else changes
abbrev pub GivesAssignment : AggId → ℕ → Assignment → SystemState → SystemState → Type 0
GivesAssignment agg conv state old new = SetsAssignment old.table new.table agg.0 conv state × (new ≡ with_table old new.table)

-- a frame that may be offered: 14 to 1518 octets, and not a slow protocols frame
abbrev pub MayBeOffered : List ℕ → Type 0
MayBeOffered octets = IsTrue (is_frame_length octets) × (IsSlowProtocolsFrame octets → ⊥)

-- a frame that may not be offered, with the first fault that holds: its length, or that it is a slow protocols frame
abbrev pub RefusesFrame : List ℕ → SystemFault → Type 0
RefusesFrame octets fault =
    (IsFalse (is_frame_length octets) × (fault ≡ FrameLength))
    ⊎ (IsTrue (is_frame_length octets) × IsSlowProtocolsFrame octets × (fault ≡ SlowFrame))

-- a frame that may be offered, for an aggregator that exists
abbrev pub MayBeOfferedTo : SystemState → AggId → List ℕ → Type 0
MayBeOfferedTo s agg octets = IsTrue (has_aggregator s agg) × MayBeOffered octets

-- what the distributor returns for the frame; it picks among the ports that distribute in the aggregator
abbrev pub AssignsPort : (ℕ → ℕ → ℕ → Type 0) → SystemState → AggId → List ℕ → Result ℕ DistFault → Type 0
AssignsPort gives s agg octets answer = Assigns gives (number_of_conversation s octets) (distributing agg s.system_ports)
    (assignment_of_frame s agg octets) answer

-- the distributor refuses an offered frame, with this cause
abbrev pub RefusedBy : (ℕ → ℕ → ℕ → Type 0) → SystemState → AggId → List ℕ → DistFault → Type 0
RefusedBy gives s agg octets cause = MayBeOfferedTo s agg octets × AssignsPort gives s agg octets (Err cause)

-- promise: `offer` refuses `NoAggregator`, `FrameLength`, `SlowFrame`, `move_conversation` `NoAggregator`, `NoPort`, `force`
--    `NoAggregator`, each then as the distributor
-- contract: `step` (`RefusesOffer`, `system_move_result`, `system_force_result`)
-- an offered frame is refused with the first fault that holds: of the aggregator, of the frame, or the distributor's
abbrev pub RefusesOffer : (ℕ → ℕ → ℕ → Type 0) → SystemState → AggId → List ℕ → SystemFault → Type 0
RefusesOffer gives s agg octets fault =
    (IsFalse (has_aggregator s agg) × (fault ≡ NoAggregator))
    ⊎ ((IsTrue (has_aggregator s agg) × RefusesFrame octets fault)
    ⊎ ((cause : DistFault) × RefusedBy gives s agg octets cause × (fault ≡ system_fault cause)))

-- promise: `offer` returns the port of the conversation, or one that distributes: the preferred one, else one that the algorithm picks;
--    what is accepted is a conversation of the aggregator
-- contract: `step` (`Offers`), `offer` (`within`)
-- a frame is to be sent on a port, and its conversation is now on that port; or it is refused, and nothing changes
abbrev pub Offers : (ℕ → ℕ → ℕ → Type 0) → AggId → List ℕ → SystemState → Result ℕ SystemFault → SystemState → Type 0
Offers gives agg octets old (Ok port) new =
    MayBeOfferedTo old agg octets × AssignsPort gives old agg octets (Ok port)
    × GivesAssignment agg (number_of_conversation old octets) (On port) old new
Offers gives agg octets old (Err fault) new = RefusesOffer gives old agg octets fault × (new ≡ old)

-- the second argument if there is a conversation of this number, else NotAssigned
abbrev pub or_not_assigned : SystemState → ℕ → Result Assignment DistFault → Result Assignment DistFault
or_not_assigned s conv answer = if nat_lt conv (conversation_count s) then answer else Err dist.NotAssigned

-- what the distributor returns, with its refusal as a fault of the system
abbrev pub in_system : Result Assignment DistFault → Result Assignment SystemFault
in_system (Ok state) = Ok state
in_system (Err fault) = Err (system_fault fault)

-- the state of a conversation after it is moved to a port, or why the move is refused
abbrev pub system_move_result : SystemState → AggId → ℕ → ℕ → Result Assignment SystemFault
system_move_result s agg conv port =
    if has_aggregator s agg
    then (if is_some (port_index port s.system_ports)
    then in_system (or_not_assigned s conv (move_result (next_identifier s.table) (distributing agg s.system_ports) port
    (assignment_of s.table agg.0 conv)))
    else Err NoPort)
    else Err NoAggregator

-- the state of a conversation after it is freed by force, or why that is refused
abbrev pub system_force_result : SystemState → AggId → ℕ → Result Assignment SystemFault
system_force_result s agg conv = if has_aggregator s agg then in_system
    (or_not_assigned s conv (force_result (assignment_of s.table agg.0 conv))) else Err NoAggregator

-- the conversation gets this state; or the call is refused, and nothing changes
abbrev pub GivesOrRefuses : AggId → ℕ → Result Assignment SystemFault → SystemState → Result Unit SystemFault → SystemState → Type 0
GivesOrRefuses agg conv (Ok state) old answer new = (answer ≡ Ok tt) × GivesAssignment agg conv state old new
GivesOrRefuses agg conv (Err fault) old answer new = (answer ≡ Err fault) × (new ≡ old)
