-- What offer_conversation does: it is `offer` for a frame of a conversation, without the frame (6.2.4; profile).
use Rattle.std.specs.Prelude.{◌≡◌, ℕ, ◌/◌, ◌%◌, Bool, true, false, List, [], ◌∷◌, nat_lt, Result, Ok, Err}
use Rattle.lagtypes.specs.declared.identifiers.AggId.{AggId}
use Rattle.distributor.specs.declared.assignment.Assignment.TheVariants.{On}
use Rattle.distributor.specs.declared.fault.DistFault.{DistFault}
use Rattle.distributor.specs.Calls.{Assigns}
use Rattle.distributor.specs.Conversations.{assignment_of}
use Rattle.lagsystem.specs.declared.fault.SystemFault.{SystemFault}
use Rattle.lagsystem.specs.declared.fault.SystemFault.TheVariants.{NoAggregator, NotAssigned}
use Rattle.lagsystem.specs.Faults.{system_fault}
use Rattle.lagsystem.specs.Offers.{GivesAssignment, has_aggregator}
use Rattle.lagsystem.specs.Readers.{conversation_count, distributing}
use Rattle.lagsystem.specs.State.{SystemState}

-- what the distributor returns for the conversation; it picks among the ports that distribute in the aggregator
abbrev pub AssignsIn : (ℕ → ℕ → ℕ → Type 0) → SystemState → AggId → ℕ → Result ℕ DistFault → Type 0
AssignsIn gives s agg conv answer = Assigns gives conv (distributing agg s.system_ports) (assignment_of s.table agg.0 conv) answer

-- the conversation is now on the port that the distributor returned; or it is refused, and nothing changes
abbrev pub TakesPort : (ℕ → ℕ → ℕ → Type 0) → AggId → ℕ → SystemState → Result ℕ SystemFault → SystemState → Type 0
TakesPort gives agg conv old (Ok port) new = AssignsIn gives old agg conv (Ok port) × GivesAssignment agg conv (On port) old new
TakesPort gives agg conv old (Err fault) new =
    ((cause : DistFault) × AssignsIn gives old agg conv (Err cause) × (fault ≡ system_fault cause)) × (new ≡ old)

-- The first argument: there is this aggregator; the second: there is a conversation of this number.
abbrev pub OffersIf : Bool → Bool → (ℕ → ℕ → ℕ → Type 0) → AggId → ℕ → SystemState → Result ℕ SystemFault → SystemState → Type 0
OffersIf false known gives agg conv old answer new = (answer ≡ Err NoAggregator) × (new ≡ old)
OffersIf true false gives agg conv old answer new = (answer ≡ Err NotAssigned) × (new ≡ old)
OffersIf true true gives agg conv old answer new = TakesPort gives agg conv old answer new

-- the port for a frame of the conversation, or the first fault that holds
abbrev pub OffersConversation : (ℕ → ℕ → ℕ → Type 0) → AggId → ℕ → SystemState → Result ℕ SystemFault → SystemState → Type 0
OffersConversation gives agg conv old answer new =
    OffersIf (has_aggregator old agg) (nat_lt conv (conversation_count old)) gives agg conv old answer new

-- a frame of this conversation: to an address that ends in the conversation's number, from the address 0, of EtherType
-- 0x0800, without a payload
abbrev pub frame_of_conversation : ℕ → List ℕ
frame_of_conversation conv = 0 ∷ 0 ∷ 0 ∷ 0 ∷ conv / 256 ∷ conv % 256 ∷ 0 ∷ 0 ∷ 0 ∷ 0 ∷ 0 ∷ 0 ∷ 0x08 ∷ 0x00 ∷ []
