-- What every list of calls of `Holding` keeps (profile).
use Rattle.std.specs.Prelude.{◌≡◌, ℕ, ◌+◌, ◌≤◌, is_some, cond, ◌⊎◌, List, [], ◌∷◌, ◌++◌, length}
use Rattle.dataplane.specs.Holding.{HoldingValue, queue, in_all, refusal}
use Rattle.dataplane.specs.QueueCalls.{QueueCall, Put, Next, DropOldest, Clear, Gone, Sent, Dropped, after, accepted, gone}

module _ {X : Type 0} where
  -- what is held after these calls
  abbrev pub after_all : List (QueueCall X) → HoldingValue X → HoldingValue X
  after_all [] h = h
  after_all (call ∷ calls) h = after_all calls (after call h)

  -- all that these calls put into conversation k
  abbrev pub all_accepted : ℕ → List (QueueCall X) → HoldingValue X → List X
  all_accepted k [] h = []
  all_accepted k (call ∷ calls) h = accepted k call h ++ all_accepted k calls (after call h)

  -- all that these calls take out of conversation k
  abbrev pub all_gone : ℕ → List (QueueCall X) → HoldingValue X → List (Gone X)
  all_gone k [] h = []
  all_gone k (call ∷ calls) h = gone k call h ++ all_gone k calls (after call h)

  abbrev pub handle_of : Gone X → X
  handle_of (Sent handle) = handle
  handle_of (Dropped handle) = handle

  -- those that were taken out to be sent
  abbrev pub all_sent : List (Gone X) → List X
  all_sent [] = []
  all_sent (Sent handle ∷ gs) = handle ∷ all_sent gs
  all_sent (Dropped handle ∷ gs) = all_sent gs

  -- how many were dropped
  abbrev pub number_dropped : List (Gone X) → ℕ
  number_dropped [] = 0
  number_dropped (Sent handle ∷ gs) = number_dropped gs
  number_dropped (Dropped handle ∷ gs) = 1 + number_dropped gs

  -- xs is ys with some elements left out
  abbrev pub IsSubsequence : List X → List X → Type 0
  IsSubsequence [] ys = Unit {0}
  IsSubsequence (x ∷ xs) [] = ⊥
  IsSubsequence (x ∷ xs) (y ∷ ys) = ((x ≡ y) × IsSubsequence xs ys) ⊎ IsSubsequence (x ∷ xs) ys

  -- the conversation of a call
  abbrev pub conversation_of : QueueCall X → ℕ
  conversation_of (Put conversation handle) = conversation
  conversation_of (Next conversation) = conversation
  conversation_of (DropOldest conversation) = conversation
  conversation_of (Clear conversation) = conversation

  -- how many handles these calls drop, of all conversations
  abbrev pub all_dropped : List (QueueCall X) → HoldingValue X → ℕ
  all_dropped [] h = 0
  all_dropped (call ∷ calls) h = number_dropped (gone (conversation_of call) call h) + all_dropped calls (after call h)

  -- how many handles a call hands back
  abbrev pub handed_back : QueueCall X → HoldingValue X → ℕ
  handed_back (Put conversation handle) h = cond (is_some (refusal h conversation)) 1 0
  handed_back _ h = 0

  abbrev pub all_handed_back : List (QueueCall X) → HoldingValue X → ℕ
  all_handed_back [] h = 0
  all_handed_back (call ∷ calls) h = handed_back call h + all_handed_back calls (after call h)

  -- no queue is longer than it may be, nor are all together
  pub record IsWithin (h : HoldingValue X) : Type 0 where
    pub each : (k : ℕ) → length (queue h k) ≤ h.most_each
    pub all : in_all h ≤ h.most_in_all
