-- What a client's frame meets where the aggregator that carries changes (profile).
use Rattle.std.specs.Prelude.{◌≡◌, ◌≢◌, ◌<◌, ℕ, List, Option, Some, None, Result, Err}
use Rattle.lagtypes.specs.declared.identifiers.AggId.{AggId}
use Rattle.lagmodel.specs.View.{Free}
use Rattle.lagsystem.specs.Assigning.{OffersConversation}
use Rattle.lagsystem.specs.Calls.{Call, Offer}
use Rattle.lagsystem.specs.ModelView.{model_view}
use Rattle.lagsystem.specs.Offers.{MayBeOffered}
use Rattle.lagsystem.specs.Readers.{aggregator_numbered, conversation_count, conversation_in, number_of_conversation}
use Rattle.lagsystem.specs.Sound.{CallPromise}
use Rattle.lagsystem.specs.State.{SystemState}
use Rattle.lagsystem.specs.declared.drive.Reply.TheVariants as reply
use Rattle.lagsystem.specs.declared.fault.SystemFault.{SystemFault}
use Rattle.lagsystem.specs.declared.fault.SystemFault.TheVariants.{Held}
use Rattle.dataplane.specs.Choice.{IsAggregator}
use Rattle.dataplane.specs.OneAggregator.{InOneAggregator}

-- the conversation is On, Wanted or Flushing in another aggregator than this one
pub record IsElsewhere (s : SystemState) (agg : AggId) (conv : ℕ) : Type 0 where
  pub other : AggId
  pub is : IsAggregator s other
  pub differs : other.0 ≢ agg.0
  pub busy : (model_view s).flows.state other.0 conv ≢ Free

-- the same, of a conversation if there is one
abbrev pub IsHeldElsewhere : SystemState → AggId → Option ℕ → Type 0
IsHeldElsewhere s agg None = ⊥
IsHeldElsewhere s agg (Some conv) = IsElsewhere s agg conv

-- there is a conversation of this number, and it is On, Wanted or Flushing in another aggregator than this one
abbrev pub IsNumberElsewhere : SystemState → AggId → ℕ → Type 0
IsNumberElsewhere s agg conv = (conv < conversation_count s) × IsElsewhere s agg conv

-- each conversation number is On, Wanted or Flushing in one aggregator at most, and in none that is not there
pub record IsInOneAggregator (s : SystemState) : Type 0 where
  pub there : (g conv : ℕ) → (model_view s).flows.state g conv ≢ Free → IsAggregator s (aggregator_numbered g)
  pub one : InOneAggregator (model_view s)

-- the call is no offer
abbrev pub IsNoOffer : Call → Type 0
IsNoOffer (Offer agg octets) = ⊥
IsNoOffer call = Unit {0}

-- An offer in the aggregator that carries. The first two: the conversation is On, Wanted or Flushing in another aggregator; what the
-- offer answers and does where it is not. Where it is, the offer is Held, and nothing changes.
pub record OffersInActiveAggregator (elsewhere offers : Type 0) (old : SystemState) (answer : Result ℕ SystemFault) (new : SystemState) : Type 0 where
  pub held : elsewhere → (answer ≡ Err Held) × (new ≡ old)
  pub offered : (elsewhere → ⊥) → offers
  pub keeps : IsInOneAggregator old → IsInOneAggregator new

-- the offer of a frame
abbrev pub OffersFrameInActiveAggregator : (ℕ → ℕ → ℕ → Type 0) → AggId → List ℕ → SystemState → Result ℕ SystemFault → SystemState → Type 0
OffersFrameInActiveAggregator gives agg octets old answer new =
    OffersInActiveAggregator (IsHeldElsewhere old agg (conversation_in old octets))
    (CallPromise gives old (Offer agg octets) (reply.Offer answer) new) old answer new

-- the offer of a conversation, whatever the octets of its frame: for each frame of the conversation, the offer of the frame
abbrev pub OffersNumberInActiveAggregator : (ℕ → ℕ → ℕ → Type 0) → AggId → ℕ → SystemState → Result ℕ SystemFault → SystemState → Type 0
OffersNumberInActiveAggregator gives agg conv old answer new =
    OffersInActiveAggregator (IsNumberElsewhere old agg conv) (OffersConversation gives agg conv old answer new
    × ((octets : List ℕ) → MayBeOffered octets → number_of_conversation old octets ≡ conv
    → CallPromise gives old (Offer agg octets) (reply.Offer answer) new)) old answer new
