-- What each event does to two systems and their cables.
use Rattle.std.specs.Prelude.{◌≡◌, ℕ, zero, suc, ◌+◌, ◌==◌, Bool, true, false, List, [], ◌∷◌, length, map, Option, Some, None, IsSome}
use Rattle.std.specs.Prelude.{IsSomeAnd, is_some, nat_le, Result, Ok, Err, slice_get, slice_set, if◌then◌else◌}
use Rattle.lagtypes.specs.declared.identifiers.AggId.{AggId}
use Rattle.cables.specs.declared.item.Stamp.{Stamp}
use Rattle.cables.specs.declared.item.Stamp.TheVariants as stamp
use Rattle.slowpdu.specs.declared.pdu.Pdu.{Pdu}
use Rattle.slowpdu.specs.declared.pdu.Pdu.TheVariants as pdu
use Rattle.slowpdu.specs.Readings.{pdu_in, lacpdu_in}
use Rattle.lagmodel.specs.View.{PartyChange as ModelChange}
use Rattle.lagmodel.specs.World.{Side, One, Two, Event as ModelEvent}
use Rattle.lagsystem.specs.declared.received.Received.{Received}
use Rattle.lagsystem.specs.declared.received.Received.TheVariants as received
use Rattle.lagsystem.specs.declared.config.PortChange.{PortChange}
use Rattle.lagsystem.specs.declared.drive.Reply.TheVariants as answer
use Rattle.lagsystem.specs.declared.fault.SystemFault.{SystemFault}
use Rattle.lagsystem.specs.Calls.{Receive, Transmit, Offer}
use Rattle.lagsystem.specs.Readers.{number_of_conversation}
use Rattle.lagscript.specs.EventValues.{cable_named, system_named}
use Rattle.lagscript.specs.declared.event.Event.{Event}
use Rattle.lagscript.specs.declared.event.Event.TheVariants as event
use Rattle.lagworld.specs.declared.reply.Reply.{Reply}
use Rattle.lagworld.specs.declared.reply.Reply.TheVariants as reply
use Rattle.lagworld.specs.declared.fault.WorldFault.{WorldFault}
use Rattle.lagworld.specs.declared.fault.WorldFault.TheVariants.{NoCable, NoSystem, Spent, NoMemory}
use Rattle.lagworld.specs.declared.histories.StampedLacpdu.{StampedLacpdu}
use Rattle.lagworld.specs.declared.histories.PortHistory.{PortHistory}
use Rattle.lagworld.specs.State.{ItemValue, HalfState, LinkState, WorldState, half, with_half, with_links, port_at, towards}
use Rattle.lagworld.specs.State.{with_towards, emptied, cut, joined, element_numbered, put_on_port, is_accepted, history_at}
use Rattle.lagworld.specs.State.{change_count_in, change_flow, with_sent, with_collected, flow_at, sent_in}
use Rattle.lagworld.specs.Messages.{payload_in, side_number, side_numbered, stamp_count}
use Rattle.lagworld.specs.HalfCalls.{HalfAnswers, HalfTicks, HalfSenses, HalfConfigures, HalfRestarts, HalfMoves, HalfForces, set_taken}

-- the system with this number, 1 or 2
abbrev pub side_of : ℕ → Option Side
side_of n = if n == 1 then Some One else (if n == 2 then Some Two else None)

-- for each system: conversation number, count of ports, and an index that its distribution algorithm may return
abbrev pub Algorithms : Type 1
Algorithms = Side → ℕ → ℕ → ℕ → Type 0

-- system s, with its histories and records, changes by the relation; nothing else changes
abbrev pub InHalf : Side → (HalfState → HalfState → Type 0) → WorldState → WorldState → Type 0
InHalf s R old new = R (half s old) (half s new) × (new ≡ with_half s (half s new) old)

-- cable c exists, and the relation holds of its index and of the cable
abbrev pub OnLink : ℕ → (ℕ → LinkState → Type 0) → List LinkState → Type 0
OnLink zero P links = ⊥
OnLink (suc i) P links = IsSomeAnd (slice_get links i) (P i)

-- the world, with this link in the place of the one at index i
abbrev pub with_link_at : ℕ → LinkState → WorldState → WorldState
with_link_at i l j = with_links j (slice_set j.links i l)

-- the world, after port p of system s sent this item
abbrev pub with_item_sent : Side → ℕ → ItemValue → WorldState → WorldState
with_item_sent s p item j = with_links j (put_on_port s p item j.links)

-- the stamp of a PDU that is sent: for an LACPDU its sender's change count, else 0
abbrev pub stamp_for : Pdu → ℕ → Stamp
stamp_for (pdu.Lacpdu v) count = stamp.Control count
stamp_for (pdu.Marker m) count = stamp.Control 0

-- the reply to an Emit event that sent this PDU; `accepted` is whether a cable accepted it
abbrev pub sent_reply : Pdu → Bool → Reply
sent_reply (pdu.Lacpdu v) accepted = reply.Lacpdu v.actor.state accepted
sent_reply (pdu.Marker m) accepted = reply.Marker m.id accepted

-- the frame that port p sends, with its stamp: for an LACPDU the port's change count, else 0
abbrev pub transmitted_item : Side → ℕ → List ℕ → HalfState → ItemValue
transmitted_item s p frame h =
    record { octets = frame; stamp = stamp_for (pdu_in (payload_in frame)) (change_count_in (history_at h.histories p)) }

-- What the world does with the answer to Transmit of port p of system s: it sends the frame, and gives the reply of
-- Emit.
abbrev pub AfterTransmit : Side → ℕ → Result (Option (List ℕ)) SystemFault → WorldState → Reply → WorldState → Type 0
AfterTransmit s p (Err fault) old r new = (r ≡ reply.Refused fault) × (new ≡ old)
AfterTransmit s p (Ok None) old r new = (r ≡ reply.Nothing) × (new ≡ old)
AfterTransmit s p (Ok (Some frame)) old r new =
    (r ≡ sent_reply (pdu_in (payload_in frame)) (is_accepted s p old.links))
    × (new ≡ with_item_sent s p (transmitted_item s p frame (half s old)) old)

-- an Emit event does this: system s is asked for the frame that is due on port p, which is then sent
abbrev pub WorldEmits : Algorithms → Side → ℕ → WorldState → Reply → WorldState → Type 0
WorldEmits gives s p old r new =
    (a : Result (Option (List ℕ)) SystemFault) × (mid : HalfState) × HalfAnswers (gives s) (Transmit p) (answer.Transmit a) (half s old) mid
    × AfterTransmit s p a (with_half s mid old) r new

-- the LACPDU in an item, with its stamp
abbrev pub stamped_in : ItemValue → StampedLacpdu
stamped_in item = record { pdu = lacpdu_in (payload_in item.octets); stamp = stamp_count item.stamp }

-- the histories, with this LACPDU recorded as the one that port p took last
abbrev pub set_last_lacpdu : ℕ → StampedLacpdu → List PortHistory → List PortHistory
set_last_lacpdu p lacpdu [] = []
set_last_lacpdu p lacpdu (history ∷ histories) = if history.number == p then set_taken lacpdu history ∷ histories else history
    ∷ set_last_lacpdu p lacpdu histories

-- the half, with this LACPDU as the one that port p took last
abbrev pub with_last_lacpdu : ℕ → StampedLacpdu → HalfState → HalfState
with_last_lacpdu p lacpdu h = record h { histories = set_last_lacpdu p lacpdu h.histories }

-- the half, with this serial added to what was collected of a conversation
abbrev pub with_collected_in : ℕ → ℕ → ℕ → HalfState → HalfState
with_collected_in agg conv serial h = record h { flows = change_flow (with_collected serial) agg conv h.flows }

-- a data frame counts as collected, for the system that sent it
abbrev pub with_stamp_collected : Stamp → WorldState → WorldState
with_stamp_collected (stamp.Control count) j = j
with_stamp_collected (stamp.Data system agg conv serial) j =
    with_half (side_numbered system) (with_collected_in agg conv serial (half (side_numbered system) j)) j

-- What the world does with the answer to an item that came on port p of system s: it records an LACPDU, sends a
-- response, or counts a data frame as collected.
abbrev pub AfterReceive : Side → ℕ → ItemValue → Result Received SystemFault → WorldState → Reply → WorldState → Type 0
AfterReceive s p item (Err fault) old r new = (r ≡ reply.Refused fault) × (new ≡ old)
AfterReceive s p item (Ok received.Disabled) old r new = (r ≡ reply.Disabled) × (new ≡ old)
AfterReceive s p item (Ok received.Dropped) old r new = (r ≡ reply.Dropped) × (new ≡ old)
AfterReceive s p item (Ok (received.Ignored fault)) old r new = (r ≡ reply.Ignored) × (new ≡ old)
AfterReceive s p item (Ok received.TookLacpdu) old r new = (r ≡ reply.Took)
    × (new ≡ with_half s (with_last_lacpdu p (stamped_in item) (half s old)) old)
AfterReceive s p item (Ok (received.Respond frame)) old r new =
    (r ≡ reply.Responded (is_accepted s p old.links)) × (new ≡ with_item_sent s p (record { octets = frame; stamp = stamp.Control 0 }) old)
AfterReceive s p item (Ok (received.Released n)) old r new = (r ≡ reply.Released n) × (new ≡ old)
AfterReceive s p item (Ok (received.Up agg)) old r new = (r ≡ reply.Up agg) × (new ≡ with_stamp_collected item.stamp old)

-- an item arrives on port p of system s
abbrev pub WorldReceives : Algorithms → Side → ℕ → ItemValue → WorldState → Reply → WorldState → Type 0
WorldReceives gives s p item old r new =
    (a : Result Received SystemFault) × (mid : HalfState)
    × HalfAnswers (gives s) (Receive p item.octets) (answer.Receive a) (half s old) mid
    × AfterReceive s p item a (with_half s mid old) r new

-- the first item towards s is taken off the cable at index i, and arrives on its port of s; Empty if there is none
abbrev pub DeliversFrom : Algorithms → Side → ℕ → LinkState → List ItemValue → WorldState → Reply → WorldState → Type 0
DeliversFrom gives s i l [] old r new = (r ≡ reply.Empty) × (new ≡ old)
DeliversFrom gives s i l (item ∷ rest) old r new = WorldReceives gives s (port_at s l) item
    (with_link_at i (with_towards s rest l) old) r new

-- the first item towards s is taken off the cable at index i, and is lost; the reply is Empty if there is none
abbrev pub LosesFrom : Side → ℕ → LinkState → List ItemValue → WorldState → Reply → WorldState → Type 0
LosesFrom s i l [] old r new = (r ≡ reply.Empty) × (new ≡ old)
LosesFrom s i l (item ∷ rest) old r new = (r ≡ reply.Lost) × (new ≡ with_link_at i (with_towards s rest l) old)

-- the first item arrives but stays, unless it is a data frame
abbrev pub RepeatsItem : Algorithms → Side → ℕ → List ℕ → Stamp → WorldState → Reply → WorldState → Type 0
RepeatsItem gives s p octets (stamp.Control count) old r new =
    WorldReceives gives s p (record { octets = octets; stamp = stamp.Control count }) old r new
RepeatsItem gives s p octets (stamp.Data system agg conv serial) old r new = (r ≡ reply.NotControl) × (new ≡ old)

-- the first item towards s on a cable arrives but stays, unless it is a data frame; Empty if there is none
abbrev pub RepeatsFrom : Algorithms → Side → LinkState → List ItemValue → WorldState → Reply → WorldState → Type 0
RepeatsFrom gives s l [] old r new = (r ≡ reply.Empty) × (new ≡ old)
RepeatsFrom gives s l (item ∷ rest) old r new = RepeatsItem gives s (port_at s l) item.octets item.stamp old r new

-- the frame as an item with its stamp: its system, aggregator and conversation, and the conversation's next serial
-- number; the port does not matter
abbrev pub offered_item : Side → ℕ → AggId → List ℕ → HalfState → ItemValue
offered_item s port agg octets h = record {
  octets = octets;
  stamp = stamp.Data (side_number s) agg.0 (number_of_conversation h.state octets)
      (length (sent_in (flow_at h.flows agg.0 (number_of_conversation h.state octets))));
}

-- the half, after the conversation of this frame sent one more frame in the aggregator
abbrev pub with_frame_counted : AggId → List ℕ → HalfState → HalfState
with_frame_counted agg octets h = record h { flows = change_flow with_sent agg.0 (number_of_conversation h.state octets) h.flows }

-- What the world does with the answer to an offered frame: it sends the frame on that port, as the next of its
-- conversation; or it gives the refusal as the reply.
abbrev pub AfterOffer : Side → AggId → List ℕ → Result ℕ SystemFault → WorldState → Reply → WorldState → Type 0
AfterOffer s agg octets (Err fault) old r new = (r ≡ reply.Refused fault) × (new ≡ old)
AfterOffer s agg octets (Ok port) old r new =
    IsSome (flow_at (half s old).flows agg.0 (number_of_conversation (half s old).state octets))
    × (r ≡ reply.Port port (length (sent_in (flow_at (half s old).flows agg.0 (number_of_conversation (half s old).state octets))))
    (is_accepted s port old.links))
    × (new ≡ with_item_sent s port (offered_item s port agg octets (half s old))
    (with_half s (with_frame_counted agg octets (half s old)) old))

-- an Offer event does this: system s is offered the frame, which is then sent on the port that it answers
abbrev pub WorldOffers : Algorithms → Side → AggId → List ℕ → WorldState → Reply → WorldState → Type 0
WorldOffers gives s agg octets old r new =
    (a : Result ℕ SystemFault) × (mid : HalfState) × HalfAnswers (gives s) (Offer agg octets) (answer.Offer a) (half s old) mid
    × AfterOffer s agg octets a (with_half s mid old) r new

-- what the event does, if its system and cable exist
abbrev pub DoesEvent : Algorithms → WorldState → Event → Reply → WorldState → Type 0
DoesEvent gives old (event.Tick n count) r new = IsSomeAnd (side_of n)
    (λ s. InHalf s (HalfTicks (gives s) count) old new × (r ≡ reply.Ticked))
DoesEvent gives old (event.Emit n p) r new = IsSomeAnd (side_of n) (λ s. WorldEmits gives s p old r new)
DoesEvent gives old (event.Deliver c n) r new =
    IsSomeAnd (side_of n) (λ s. OnLink c (λ i l. DeliversFrom gives s i l (towards s l) old r new) old.links)
DoesEvent gives old (event.Lose c n) r new = IsSomeAnd (side_of n)
    (λ s. OnLink c (λ i l. LosesFrom s i l (towards s l) old r new) old.links)
DoesEvent gives old (event.Repeat c n) r new =
    IsSomeAnd (side_of n) (λ s. OnLink c (λ i l. RepeatsFrom gives s l (towards s l) old r new) old.links)
DoesEvent gives old (event.Cut c) r new = OnLink c (λ i l. (r ≡ reply.Cut) × (new ≡ with_link_at i (cut l) old)) old.links
DoesEvent gives old (event.Join c) r new = OnLink c (λ i l. (r ≡ reply.Joined) × (new ≡ with_link_at i (joined l) old)) old.links
DoesEvent gives old (event.Sense c n) r new =
    IsSomeAnd (side_of n) (λ s. OnLink c (λ i l. InHalf s (λ h k. HalfSenses (gives s) (port_at s l) l.whole h r k) old new) old.links)
DoesEvent gives old (event.Restart n) r new =
    IsSomeAnd (side_of n) (λ s. (r ≡ reply.Restarted) × InHalf s (HalfRestarts (gives s)) (with_links old (map emptied old.links)) new)
DoesEvent gives old (event.Configure n p change) r new = IsSomeAnd (side_of n)
    (λ s. InHalf s (λ h k. HalfConfigures (gives s) p change h r k) old new)
DoesEvent gives old (event.Offer n agg octets) r new = IsSomeAnd (side_of n) (λ s. WorldOffers gives s agg octets.items old r new)
DoesEvent gives old (event.Move n agg conv p) r new = IsSomeAnd (side_of n)
    (λ s. InHalf s (λ h k. HalfMoves (gives s) agg conv p h r k) old new)
DoesEvent gives old (event.Force n agg conv) r new = IsSomeAnd (side_of n)
    (λ s. InHalf s (λ h k. HalfForces (gives s) agg conv h r k) old new)

-- From old, the world may give this reply to the event and change to new.
abbrev pub WorldSteps : Algorithms → WorldState → Event → Reply → WorldState → Type 0
WorldSteps gives old e r new = DoesEvent gives old e r (record new { acted = old.acted }) × (new.acted ≡ old.acted + 1)

-- these events may have these replies, one after another
abbrev pub WorldRuns : Algorithms → WorldState → List Event → List Reply → WorldState → Type 0
WorldRuns gives old [] [] new = new ≡ old
WorldRuns gives old (e ∷ es) (r ∷ rs) new = (mid : WorldState) × WorldSteps gives old e r mid × WorldRuns gives mid es rs new
WorldRuns gives old [] (r ∷ rs) new = ⊥
WorldRuns gives old (e ∷ es) [] new = ⊥

-- the most events that may act in a world
abbrev pub most_events : ℕ
most_events = 9223372036854775808

-- the cable with this number exists; true if there is no number
abbrev pub has_cable : WorldState → Option ℕ → Bool
has_cable j None = true
has_cable j (Some c) = is_some (element_numbered j.links c)

-- the number is that of a system, 1 or 2; true if there is no number
abbrev pub has_system : Option ℕ → Bool
has_system None = true
has_system (Some n) = is_some (side_of n)

-- The first of three reasons to refuse an event: its cable does not exist, its system does not exist, no more events may
-- act. The arguments: the cable exists; the system exists; no more may act.
abbrev pub first_event_cause : Bool → Bool → Bool → Option WorldFault
first_event_cause cable system spent =
    if cable then (if system then (if spent then Some Spent else None) else Some NoSystem) else Some NoCable

-- the first reason to refuse an event, leaving memory aside
abbrev pub cause : WorldState → Event → Option WorldFault
cause j e = first_event_cause (has_cable j (cable_named e)) (has_system (system_named e)) (nat_le most_events j.acted)

-- the events that may take memory; only these can be refused for lack of it
abbrev pub may_take_memory : Event → Bool
may_take_memory (event.Tick n count) = false
may_take_memory (event.Emit n p) = true
may_take_memory (event.Deliver c n) = true
may_take_memory (event.Lose c n) = false
may_take_memory (event.Repeat c n) = true
may_take_memory (event.Cut c) = false
may_take_memory (event.Join c) = false
may_take_memory (event.Sense c n) = false
may_take_memory (event.Restart n) = false
may_take_memory (event.Configure n p change) = false
may_take_memory (event.Offer n agg octets) = true
may_take_memory (event.Move n agg conv p) = false
may_take_memory (event.Force n agg conv) = false

-- the reason to refuse an event; without one, memory was refused
abbrev pub cause_or_no_memory : Option WorldFault → WorldFault
cause_or_no_memory None = NoMemory
cause_or_no_memory (Some fault) = fault

-- the change of a port, as the model has it
abbrev pub model_change : PortChange → ModelChange
model_change c = record { key = c.key; priority = c.priority; aggregatable = c.aggregatable }

-- the event, as the two-system theorem (lagmodel) has it
abbrev pub model_event : Event → ModelEvent
model_event (event.Tick n count) = ModelEvent.Tick (side_numbered n) count
model_event (event.Emit n p) = ModelEvent.Emit (side_numbered n) p
model_event (event.Deliver c n) = ModelEvent.Deliver c (side_numbered n)
model_event (event.Lose c n) = ModelEvent.Lose c (side_numbered n)
model_event (event.Repeat c n) = ModelEvent.Repeat c (side_numbered n)
model_event (event.Cut c) = ModelEvent.Cut c
model_event (event.Join c) = ModelEvent.Join c
model_event (event.Sense c n) = ModelEvent.Sense c (side_numbered n)
model_event (event.Restart n) = ModelEvent.Restart (side_numbered n)
model_event (event.Configure n p change) = ModelEvent.Configure (side_numbered n) p (model_change change)
model_event (event.Offer n agg octets) = ModelEvent.Offer (side_numbered n) agg.0 octets.items
model_event (event.Move n agg conv p) = ModelEvent.Move_conversation (side_numbered n) agg.0 conv p
model_event (event.Force n agg conv) = ModelEvent.Force (side_numbered n) agg.0 conv
