-- Calls after which the same frames are due as before, and rows that name what `offer` answers (profile).
use Rattle.std.specs.Prelude.{◌≡◌, ◌<◌, ℕ, List, Result, Ok, true}
use Rattle.lagtypes.specs.declared.identifiers.AggId.{AggId}
use Rattle.collector.specs.Collecting.{IsDataFrame}
use Rattle.distributor.specs.Conversations.{assignment_of}
use Rattle.lagsystem.specs.declared.drive.Reply.{Reply}
use Rattle.lagsystem.specs.declared.fault.SystemFault.{SystemFault}
use Rattle.lagsystem.specs.Assigning.{OffersConversation}
use Rattle.lagsystem.specs.Calls.{Call, Step}
use Rattle.lagsystem.specs.ConversationTables.{port_on}
use Rattle.lagsystem.specs.Hosts.{would_transmit_at}
use Rattle.lagsystem.specs.Offers.{MayBeOffered, has_aggregator}
use Rattle.lagsystem.specs.Readers.{conversation_count, number_of_conversation}
use Rattle.lagsystem.specs.State.{SystemState}

-- on each port a frame is due after it exactly if one was due before
abbrev pub DueAsBefore : SystemState → SystemState → Type 0
DueAsBefore old new = (n : ℕ) → would_transmit_at n new ≡ would_transmit_at n old

-- so after each `offer`
abbrev pub OfferMakesNoneDue : (ℕ → ℕ → ℕ → Type 0) → Type 0
OfferMakesNoneDue gives = (old new : SystemState) (agg : AggId) (octets : List ℕ) (answer : Reply)
    → Step gives old (Call.Offer agg octets) answer new → DueAsBefore old new

-- and after each `offer_conversation`
abbrev pub OfferConversationMakesNoneDue : (ℕ → ℕ → ℕ → Type 0) → Type 0
OfferConversationMakesNoneDue gives = (old new : SystemState) (agg : AggId) (conv : ℕ) (answer : Result ℕ SystemFault)
    → OffersConversation gives agg conv old answer new → DueAsBefore old new

-- the `receive` of a data frame changes nothing
abbrev pub DataChangesNothing : (ℕ → ℕ → ℕ → Type 0) → Type 0
DataChangesNothing gives = (old new : SystemState) (port : ℕ) (octets : List ℕ) (answer : Reply) → IsDataFrame octets
    → Step gives old (Call.Receive port octets) answer new → new ≡ old

-- a row of conversation_ports that names a port names what `offer_conversation` answers
abbrev pub RowIsAnswer : (ℕ → ℕ → ℕ → Type 0) → Type 0
RowIsAnswer gives = (s new : SystemState) (agg : AggId) (conv port : ℕ) (answer : Result ℕ SystemFault)
    → has_aggregator s agg ≡ true → conv < conversation_count s → port_on (assignment_of s.table agg.0 conv) ≡ port → 0 < port
    → OffersConversation gives agg conv s answer new → answer ≡ Ok port

-- and what `offer` answers for each frame of the conversation
abbrev pub RowIsOffer : (ℕ → ℕ → ℕ → Type 0) → Type 0
RowIsOffer gives = (s new : SystemState) (agg : AggId) (octets : List ℕ) (port : ℕ) (answer : Result ℕ SystemFault)
    → has_aggregator s agg ≡ true → MayBeOffered octets
    → port_on (assignment_of s.table agg.0 (number_of_conversation s octets)) ≡ port → 0 < port
    → Step gives s (Call.Offer agg octets) (Reply.Offer answer) new → answer ≡ Ok port
