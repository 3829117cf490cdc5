-- The number of the aggregator that carries, and offers in it, as programs in C have them (profile).
use Rattle.std.specs.Prelude.{ℕ, List, Option, None, Some, Result}
use Rattle.dataplane.specs.Offers as of_active
use Rattle.lagtypes.specs.declared.identifiers.AggId.{AggId}
use Rattle.lagsystem.specs.Readers.{aggregator_numbered}
use Rattle.lagsystem.specs.State.{SystemState}
use Rattle.lagsystem.specs.declared.fault.SystemFault.{SystemFault}

-- the number of the aggregator; 0 for none
abbrev pub number_or_0 : Option AggId → ℕ
number_or_0 None = 0
number_or_0 (Some agg) = agg.0

-- the offer of a frame in the aggregator that carries
abbrev pub OffersFrameInActiveAggregator : (ℕ → ℕ → ℕ → Type 0) → ℕ → List ℕ → SystemState → Result ℕ SystemFault → SystemState → Type 0
OffersFrameInActiveAggregator gives agg octets old answer new = of_active.OffersFrameInActiveAggregator gives (aggregator_numbered agg) octets old answer new

-- the offer of a frame of this conversation, whatever its octets
abbrev pub OffersNumberInActiveAggregator : (ℕ → ℕ → ℕ → Type 0) → ℕ → ℕ → SystemState → Result ℕ SystemFault → SystemState → Type 0
OffersNumberInActiveAggregator gives agg conv old answer new = of_active.OffersNumberInActiveAggregator gives (aggregator_numbered agg) conv old answer new
