-- A client's conversation is on its way in one aggregator at most (profile).
use Rattle.std.specs.Prelude.{◌≡◌, ◌≢◌, ℕ, false, List, [], ◌∷◌}
use Rattle.lagmodel.specs.View.{Free, View}
use Rattle.lagmodel.specs.Move.{Act, Sends, Sends_frame, Took}
use Rattle.lagmodel.specs.World.{Side, peer, World}
use Rattle.lagmodel.specs.Law.{serials}

-- each conversation number is On, Wanted or Flushing in one aggregator at most
abbrev pub InOneAggregator : View → Type 0
InOneAggregator v = (g h k : ℕ) → v.flows.state g k ≢ Free → v.flows.state h k ≢ Free → g ≡ h

-- this conversation number is Free in every other aggregator
abbrev pub FreeElsewhere : View → ℕ → ℕ → Type 0
FreeElsewhere v g k = (h : ℕ) → h ≢ g → v.flows.state h k ≡ Free

-- none of these acts sends a frame
abbrev pub SendsNoFrame : List Act → Type 0
SendsNoFrame [] = Unit {0}
SendsNoFrame (Sends p pdu ∷ acts) = SendsNoFrame acts
SendsNoFrame (Sends_frame p g k ∷ acts) = ⊥
SendsNoFrame (Took p pdu ∷ acts) = SendsNoFrame acts

-- No frame of this conversation number that was sent in another aggregator, in which it was never forced, is on any cable.
abbrev pub NoneOnItsWayElsewhere : World → Side → ℕ → ℕ → Type 0
NoneOnItsWayElsewhere w s g k = (h c : ℕ) → h ≢ g → w.forced s h k ≡ false → serials s h k (w.on_cable (peer s) c) ≡ []
