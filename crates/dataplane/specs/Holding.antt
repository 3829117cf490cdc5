-- Held frames as contracts see them (profile).
use Rattle.std.specs.Prelude.{◌≡◌, ℕ, ◌+◌, ◌-◌, ◌^◌, ◌<◌, ◌≤◌, nat_lt, min, List, [], length, map, sum_by, get_or, slice_get, slice_set, Option, None, Some, cond, refl}
use Rattle.std.specs.Coded.{Coded, code_by, coded×, coded_list, coded_ℕ}
use Rattle.circular_buffer.specs.Buffer.{Buffer, buffer}
use Rattle.dataplane.specs.declared.holding.refusal.Refusal.{Refusal}
use Rattle.dataplane.specs.declared.holding.refusal.Refusal.TheVariants.{NoConversation, ConversationFull, AllFull}

-- a ring among others
abbrev pub ring_at : {X : Type 0} → List (Buffer X) → ℕ → Buffer X
ring_at rings place = get_or rings place (buffer [] 0)

-- the queues, one a conversation, each with its oldest handle first; how many handles may wait in all and in each; how
-- many were dropped by the host's order, and how many were handed back
pub record HoldingValue (X : Type 0) : Type 0 where
  pub queues : List (List X)
  pub most_in_all : ℕ
  pub most_each : ℕ
  pub dropped : ℕ
  pub refused : ℕ

-- Memory as `Holding` has it: each ring has room for as many items as may wait in it, which is no more than may in all, and the
-- number of all that wait stands beside them, within its bound.
pub record IsHolding {X : Type 0} (rings : List (Buffer X)) (waiting most_in_all most_each : ℕ) : Type 0 where
  pub capacity : (k : ℕ) → k < length rings → (ring_at rings k).capacity ≡ min most_each most_in_all
  pub each : (k : ℕ) → k < length rings → length (ring_at rings k).items ≤ most_each
  pub number : waiting ≡ sum_by (λ ring. length ring.items) rings
  pub all : waiting ≤ most_in_all

module _ {X : Type 0} where
  abbrev pub holding_of : List (List X) → ℕ → ℕ → ℕ → ℕ → HoldingValue X
  holding_of qs a e d r = record { queues = qs; most_in_all = a; most_each = e; dropped = d; refused = r }

  abbrev pub holding_code : Coded X → Coded (HoldingValue X)
  holding_code c =
      code_by (List (List X) × (ℕ × (ℕ × (ℕ × ℕ)))) (coded× (coded_list (coded_list c)) (coded× coded_ℕ (coded× coded_ℕ (coded× coded_ℕ coded_ℕ))))
      (λ h. (h.queues, (h.most_in_all, (h.most_each, (h.dropped, h.refused))))) (λ p. holding_of p.0 p.1.0 p.1.1.0 p.1.1.1.0 p.1.1.1.1) (λ _. refl)

  -- the items of each ring
  abbrev pub ring_queues : List (Buffer X) → List (List X)
  ring_queues rings = map (λ ring. ring.items) rings

  -- the handles that wait in a conversation, the oldest first
  abbrev pub queue : HoldingValue X → ℕ → List X
  queue h conversation = get_or h.queues conversation []

  -- the handle that came into a conversation before the others that wait there, if one waits
  abbrev pub oldest : HoldingValue X → ℕ → Option X
  oldest h conversation = slice_get (queue h conversation) 0

  -- how many wait in all
  abbrev pub in_all : HoldingValue X → ℕ
  in_all h = sum_by length h.queues

  -- the queue of one conversation becomes another
  abbrev pub with_queue : HoldingValue X → ℕ → List X → HoldingValue X
  with_queue h conversation q = record h { queues = slice_set h.queues conversation q }

  -- why a handle may not wait in a conversation, if it may not
  abbrev pub refusal : HoldingValue X → ℕ → Option Refusal
  refusal h conversation =
      cond (nat_lt conversation (length h.queues))
      (cond (nat_lt (length (queue h conversation)) h.most_each)
      (cond (nat_lt (in_all h) h.most_in_all) None (Some AllFull)) (Some ConversationFull)) (Some NoConversation)

-- a count of 64 bits that stays at its end
unfoldable pub counted : ℕ → ℕ → ℕ
counted count more = min (count + more) (2 ^ 64 - 1)
