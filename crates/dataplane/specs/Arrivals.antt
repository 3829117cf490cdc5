-- What a client put, and what arrives of it (profile).
use Rattle.std.specs.Prelude.{◌≡◌, ℕ, List, [], ◌∷◌, ◌++◌, length, slice_get, option_to_list}
use Rattle.dataplane.specs.Holding.{HoldingValue, queue}
use Rattle.dataplane.specs.QueueCalls.{QueueCall}
use Rattle.dataplane.specs.QueueLaws.{all_accepted, all_gone, all_sent, IsSubsequence}
use Rattle.lagmodel.specs.World.{Side, World}

module _ {X : Type 0} where
  -- the elements at these places, in the order of the places; none past the end
  abbrev pub at_places : List X → List ℕ → List X
  at_places xs [] = []
  at_places xs (i ∷ is) = option_to_list (slice_get xs i) ++ at_places xs is

  -- The host offered these handles, which left the queue of a conversation in this order to be sent, and each offer sent a
  -- frame of the conversation: the handle at place i had serial number i.
  pub record SentFromQueue (calls : List (QueueCall X)) (h : HoldingValue X) (offered : List X) (w : World) (s : Side) (g k : ℕ) : Type 0 where
    pub left : IsSubsequence offered (all_sent (all_gone k calls h))
    pub each : length offered ≡ length (w.sent s g k)

  -- Each serial number that is collected is that of a handle, and these handles are a subsequence of what waited at first
  -- and what the client put since.
  abbrev pub ArrivesInOrder : List (QueueCall X) → HoldingValue X → List X → World → Side → ℕ → ℕ → Type 0
  ArrivesInOrder calls h offered w s g k =
      (length (at_places offered (w.collected s g k)) ≡ length (w.collected s g k))
      × IsSubsequence (at_places offered (w.collected s g k)) (queue h k ++ all_accepted k calls h)
