-- Definitions for proofs that code makes only lawful moves: states given as lists, and changes of many conversations at
-- once.
use Rattle.std.specs.Prelude.{◌≡◌, ℕ, Bool, cond, eqb, ◌⊎◌, Option, Some, None, option_map, List, [], ◌∷◌}
use Rattle.lagmodel.specs.View.{PortFacts, Conversation, ModelCall, View}
use Rattle.lagmodel.specs.Move.{Act, ConversationMove, ConversationMoveAllowed, conversation_after}
use Rattle.lagmodel.specs.World.{Side, peer, at_side, end_at, on_cable_after, sent_after, taken_after, World, WorldSetup}

-- the pair of aggregator and conversation is in the list
abbrev pub IsAmong : ℕ → ℕ → List (ℕ × ℕ) → Type 0
IsAmong g k [] = ⊥
IsAmong g k (x ∷ xs) = ((g ≡ x.0) × (k ≡ x.1)) ⊎ IsAmong g k xs

-- Each conversation is unchanged, or it is in the list and made one change that it may make.
abbrev pub BecomeByMoves : List (ℕ × ℕ) → List ℕ → ModelCall → (ℕ → ℕ → Conversation) → (ℕ → ℕ → Conversation) → Type 0
BecomeByMoves keys mac call old new =
    (g k : ℕ) → (new g k ≡ old g k)
    ⊎ (IsAmong g k keys × ((m : ConversationMove) × ConversationMoveAllowed mac call g k m (old g k)
    × (new g k ≡ conversation_after m)))

-- the item with this number
abbrev pub find_number : {X : Type 0} → (X → ℕ) → List X → ℕ → Option X
find_number number [] q = None
find_number number (x ∷ xs) q = cond (eqb q (number x)) (Some x) (find_number number xs q)

-- no number occurs twice
abbrev pub AreNumbered : {X : Type 0} → (X → ℕ) → List X → Type 0
AreNumbered number [] = Unit {0}
AreNumbered number (x ∷ xs) = (find_number number xs (number x) ≡ None) × AreNumbered number xs

-- a list of ports as a function from port numbers
abbrev pub ports_of : {X : Type 0} → (X → ℕ) → (X → PortFacts) → List X → ℕ → Option PortFacts
ports_of number view xs q = option_map view (find_number number xs q)

-- The world after a call of system s that ended in the view v and had at most this one visible act. `accepted`: whether the
-- cable accepts what is sent. `stamp`: the stamp of what came in this call.
abbrev pub world_after_call : WorldSetup → Side → ℕ → Bool → Option Act → View → World → World
world_after_call x s stamp accepted o v w = record w {
  view = at_side w.view s v;
  on_cable = at_side w.on_cable (peer s)
      (on_cable_after s (end_at x.cables s) w.whole (w.count s) (w.sent s) accepted o (w.on_cable (peer s)));
  sent = at_side w.sent s (sent_after o (w.sent s));
  taken = at_side w.taken s (taken_after stamp o (w.taken s));
}
