-- What a program in C is told of all conversations of an aggregator, and what an offer by number is.
use Rattle.std.specs.Prelude.{◌≡◌, ℕ, Bool, true, false, List, is_some, min, Result}
use Rattle.lagsystem.specs.Assigning.{OffersConversation}
use Rattle.lagsystem.specs.Calls.{Offer}
use Rattle.lagsystem.specs.Hosts.{conversation_at}
use Rattle.lagsystem.specs.Offers.{MayBeOffered}
use Rattle.lagsystem.specs.Readers.{aggregator_numbered, number_of_conversation}
use Rattle.lagsystem.specs.Sound.{CallPromise}
use Rattle.lagsystem.specs.State.{SystemState}
use Rattle.lagsystem.specs.declared.drive.Reply.TheVariants as reply
use Rattle.lagsystem.specs.declared.fault.SystemFault.{SystemFault}
use Rattle.lagsystem.specs.declared.fault.SystemFault.TheVariants.{NoAggregator}
use Rattle.lagsystem.specs.Faults.{fault_number}
use Rattle.lagffi.specs.Numbers.{number, number_refused, wrong_buffer_length}
use Rattle.lagffi.specs.declared.values.LagNumber.{LagNumber}

-- what offer_conversation answers and does: for each frame of the conversation, what offer does
abbrev pub OffersByNumber : (ℕ → ℕ → ℕ → Type 0) → ℕ → ℕ → SystemState → Result ℕ SystemFault → SystemState → Type 0
OffersByNumber gives agg conv old answer new = OffersConversation gives (aggregator_numbered agg) conv old answer new
    × ((octets : List ℕ) → MayBeOffered octets → number_of_conversation old octets ≡ conv
    → CallPromise gives old (Offer (aggregator_numbered agg) octets) (reply.Offer answer) new)

-- how many conversations an aggregator has, where it has many (profile)
abbrev pub many_conversations : ℕ
many_conversations = 4096

-- a list of this length has no row for some conversation of the aggregator: there is one with that number
abbrev pub lacks_row : SystemState → ℕ → ℕ → Bool
lacks_row s agg rows = is_some (conversation_at s (aggregator_numbered agg) (min rows many_conversations))

-- The first two arguments: one list or the other lacks a row; there is the aggregator. Where neither lacks one, the rows are told, and
-- the answer is how many are marked; else the answer is why not, and the lists stay as they are.
abbrev pub TellsRowsIf : Bool → Bool → LagNumber → Type 0 → (ℕ → Type 0) → Type 0
TellsRowsIf true there answer stays tells = (answer ≡ number_refused wrong_buffer_length) × stays
TellsRowsIf false false answer stays tells = (answer ≡ number_refused (fault_number NoAggregator)) × stays
TellsRowsIf false true answer stays tells = (count : ℕ) × (answer ≡ number count) × tells count
