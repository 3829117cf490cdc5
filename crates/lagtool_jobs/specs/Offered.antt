-- Which aggregators a list of events offers frames to; no other aggregator sent one.
use Rattle.std.specs.Prelude.{◌≡◌, ◌<◌, ℕ, ◌==◌, ◌&&◌, Bool, false, List, [], length, get_or}
use Rattle.std.specs.List.{list_any}
use Rattle.lagscript.specs.declared.event.Event.{Event}
use Rattle.lagscript.specs.declared.event.Event.TheVariants as event
use Rattle.lagworld.specs.Events.{side_of}
use Rattle.lagworld.specs.Readers.{flow_of_system}
use Rattle.lagworld.specs.State.{WorldState, sent_in}

-- the event offers a frame to this aggregator of the system with this number
abbrev pub offers_to : ℕ → ℕ → Event → Bool
offers_to s agg (event.Offer n a frame) = (n == s) && (a.0 == agg)
offers_to s agg _ = false

-- one of the events offers a frame to this aggregator of system s
abbrev pub is_offered : ℕ → ℕ → List Event → Bool
is_offered s agg events = list_any (offers_to s agg) events

-- each flag says whether one of the events offers a frame to the aggregator with its number
abbrev pub AreOfferFlags : ℕ → List Event → List Bool → Type 0
AreOfferFlags s events flags = (agg : ℕ) → agg < length flags → get_or flags agg false ≡ is_offered s agg events

-- no conversation of the aggregator sent a frame
abbrev pub HasSentNothing : WorldState → ℕ → ℕ → Type 0
HasSentNothing j s agg = (conv : ℕ) → sent_in (flow_of_system (side_of s) agg conv j) ≡ []

-- only aggregators that one of the events offers frames to have sent one
abbrev pub IsSentWhereOffered : List Event → WorldState → Type 0
IsSentWhereOffered events j = (s agg : ℕ) → is_offered s agg events ≡ false → HasSentNothing j s agg
