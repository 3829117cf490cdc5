-- The queues of a handle, and what a program in C is told of them (profile).
use Rattle.std.specs.Prelude.{◌≡◌, ℕ, ◌<◌, true, false, List, [], length, Option, None, Some, slice_index}
use Rattle.dataplane.specs.QueueCalls.{after, Next}
use Rattle.dataplane.specs.Holding.{HoldingValue, queue, oldest, in_all}
use Rattle.dataplane.specs.declared.holding.queues.Released.{Released}
use Rattle.dataplane.specs.declared.holding.refusal.Refusal.{Refusal}
use Rattle.dataplane.specs.declared.holding.refusal.Refusal.TheVariants.{NoConversation, ConversationFull, AllFull}
use Rattle.lagsystem.specs.Faults.{fault_number}
use Rattle.lagsystem.specs.declared.fault.SystemFault.TheVariants.{NotAssigned}
use Rattle.lagffi.specs.declared.queued.LagQueueCounts.{LagQueueCounts}
use Rattle.lagffi.specs.declared.queued.LagQueued.{LagQueued}
use Rattle.lagffi.specs.declared.stored.Stored.{Stored}

-- the statuses that only calls of queues answer: the handle holds no queues; it holds queues already; as many frames of the
-- conversation wait as may; as many wait as may in all
abbrev pub no_queue : ℕ
no_queue = 19

abbrev pub holds_queue_already : ℕ
holds_queue_already = 20

abbrev pub conversation_full : ℕ
conversation_full = 21

abbrev pub all_full : ℕ
all_full = 22

-- the queues that the handle holds, if it holds some
abbrev pub queue_value : Option Stored → Option (HoldingValue ℕ)
queue_value None = None
queue_value (Some kept) = kept.queue

-- A call: the handle held queues, which go on by this relation and are held still; or it held none, holds none, and answers its refusal.
abbrev pub CallsQueue : Option (HoldingValue ℕ) → Option (HoldingValue ℕ) → (HoldingValue ℕ → HoldingValue ℕ → Type 0) → Type 0 → Type 0
CallsQueue None new does refuses = refuses × (new ≡ None)
CallsQueue (Some h) new does refuses = (t : HoldingValue ℕ) × (new ≡ Some t) × does h t

-- the status of a put, by why it is refused
abbrev pub status_of_put : Option Refusal → ℕ
status_of_put None = 0
status_of_put (Some NoConversation) = fault_number NotAssigned
status_of_put (Some ConversationFull) = conversation_full
status_of_put (Some AllFull) = all_full

-- no frame is told, with this status
abbrev pub no_frame : ℕ → LagQueued
no_frame status = record { status = status; is = false; conversation = 0; port = 0; frame = 0 }

-- a frame of a conversation, on no port yet, or none
abbrev pub frame_of : ℕ → Option ℕ → LagQueued
frame_of conversation (Some frame) = record { status = 0; is = true; conversation = conversation; port = 0; frame = frame }
frame_of conversation None = no_frame 0

-- the frame that leaves with its port, or none
abbrev pub released_of : Option (Released ℕ) → LagQueued
released_of (Some r) = record { status = 0; is = true; conversation = r.conversation; port = r.port; frame = r.handle }
released_of None = no_frame 0

-- No conversation before this one that is on a port has a frame waiting.
abbrev pub NoneBefore : List ℕ → HoldingValue ℕ → ℕ → Type 0
NoneBefore ports h end = (k : ℕ) → k < end → 0 < slice_index ports k → queue h k ≡ []

-- The oldest frame leaves of the first conversation that is on a port and has one waiting; none leaves exactly if there is none.
abbrev pub Releases : List ℕ → HoldingValue ℕ → HoldingValue ℕ → Option (Released ℕ) → Type 0
Releases ports old new None = NoneBefore ports old (length ports) × (new ≡ old)
Releases ports old new (Some r) = NoneBefore ports old r.conversation × ((r.port ≡ slice_index ports r.conversation) × (0 < r.port))
    × (oldest old r.conversation ≡ Some r.handle) × (new ≡ after (Next r.conversation) old)

-- no counts are told, with this status
abbrev pub no_counts : ℕ → LagQueueCounts
no_counts status = record { status = status; waiting = 0; dropped = 0; refused = 0 }

-- how many frames wait, were dropped and were refused
abbrev pub counts_of : HoldingValue ℕ → LagQueueCounts
counts_of h = record { status = 0; waiting = in_all h; dropped = h.dropped; refused = h.refused }
