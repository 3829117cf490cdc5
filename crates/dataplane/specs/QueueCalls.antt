-- What each call of `Holding` does to what is held, and what it takes out (profile).
use Rattle.std.specs.Prelude.{ℕ, eqb, cond, ◌&&◌, is_none, Option, Some, None, List, [], ◌∷◌, ◌++◌, length, take, drop, map}
use Rattle.dataplane.specs.Holding.{HoldingValue, queue, with_queue, refusal, counted}

-- a call that changes what is held, with its conversation
pub data QueueCall (X : Type 0) : Type 0 where
  Put : ℕ → X → QueueCall X
  Next : ℕ → QueueCall X
  DropOldest : ℕ → QueueCall X
  Clear : ℕ → QueueCall X

-- a handle that was taken out: to be sent, or not to be sent
pub data Gone (X : Type 0) : Type 0 where
  Sent : X → Gone X
  Dropped : X → Gone X

module _ {X : Type 0} where
  -- the first n handles of a conversation are dropped, and counted
  abbrev pub dropping : HoldingValue X → ℕ → ℕ → HoldingValue X
  dropping h conversation n =
      record (with_queue h conversation (drop n (queue h conversation))) {
        dropped = counted h.dropped (length (take n (queue h conversation)));
      }

  -- what is held after a call
  abbrev pub after : QueueCall X → HoldingValue X → HoldingValue X
  after (Put conversation handle) h =
      cond (is_none (refusal h conversation)) (with_queue h conversation (queue h conversation ++ handle ∷ []))
      (record h { refused = counted h.refused 1 })
  after (Next conversation) h = with_queue h conversation (drop 1 (queue h conversation))
  after (DropOldest conversation) h = dropping h conversation 1
  after (Clear conversation) h = dropping h conversation (length (queue h conversation))

  -- what a call puts into conversation k
  abbrev pub accepted : ℕ → QueueCall X → HoldingValue X → List X
  accepted k (Put conversation handle) h = cond (eqb conversation k && is_none (refusal h conversation)) (handle ∷ []) []
  accepted k _ h = []

  -- what a call takes out of conversation k
  abbrev pub gone : ℕ → QueueCall X → HoldingValue X → List (Gone X)
  gone k (Put conversation handle) h = []
  gone k (Next conversation) h = cond (eqb conversation k) (map Sent (take 1 (queue h conversation))) []
  gone k (DropOldest conversation) h = cond (eqb conversation k) (map Dropped (take 1 (queue h conversation))) []
  gone k (Clear conversation) h = cond (eqb conversation k) (map Dropped (queue h conversation)) []

  -- a handle that is taken out to be sent, or none
  abbrev pub sent : Option X → List (Gone X)
  sent (Some handle) = Sent handle ∷ []
  sent None = []
