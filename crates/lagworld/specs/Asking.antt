-- What a call of one of the two systems changes, and its result; and what a Lose event changes.
use Rattle.std.specs.Prelude.{ℕ, Bool, List, Option, Result, if◌then◌else◌}
use Rattle.lagtypes.specs.declared.identifiers.AggId.{AggId}
use Rattle.lagsystem.specs.declared.drive.Reply.TheVariants as answer
use Rattle.lagsystem.specs.declared.fault.SystemFault.{SystemFault}
use Rattle.lagsystem.specs.Calls.{Transmit, Offer, Force}
use Rattle.lagmodel.specs.World.{Side}
use Rattle.lagworld.specs.declared.reply.Reply.{Reply}
use Rattle.lagworld.specs.declared.reply.Reply.TheVariants as reply
use Rattle.lagworld.specs.State.{HalfState, WorldState, change_flow, towards, with_sent}
use Rattle.lagworld.specs.HalfCalls.{HalfAnswers, HalfForces}
use Rattle.lagworld.specs.Events.{Algorithms, InHalf, LosesFrom, OnLink}

-- One of the two systems is asked for the frame that port p is to send and answers a: the frame, None if none is due,
-- or why not; gives is what its distribution algorithm may return.
abbrev pub HalfAsksTransmit : (ℕ → ℕ → ℕ → Type 0) → ℕ → Result (Option (List ℕ)) SystemFault → HalfState → HalfState → Type 0
HalfAsksTransmit gives p a old new = HalfAnswers gives (Transmit p) (answer.Transmit a) old new

-- System s is asked for the frame that port p is to send and answers a: the frame, None if none is due, or why not.
-- Nothing else changes.
abbrev pub WorldAsksTransmit : Algorithms → Side → ℕ → Result (Option (List ℕ)) SystemFault → WorldState → WorldState → Type 0
WorldAsksTransmit gives s p a old new = InHalf s (λ h k. HalfAsksTransmit (gives s) p a h k) old new

-- One of the two systems is offered this frame and answers a: the port to send it on, or why not; gives is what its
-- distribution algorithm may return.
abbrev pub HalfAsksOffer : (ℕ → ℕ → ℕ → Type 0) → AggId → List ℕ → Result ℕ SystemFault → HalfState → HalfState → Type 0
HalfAsksOffer gives agg octets a old new = HalfAnswers gives (Offer agg octets) (answer.Offer a) old new

-- System s is offered this frame and answers a: the port to send it on, or why not. Nothing else changes.
abbrev pub WorldAsksOffer : Algorithms → Side → AggId → List ℕ → Result ℕ SystemFault → WorldState → WorldState → Type 0
WorldAsksOffer gives s agg octets a old new = InHalf s (λ h k. HalfAsksOffer (gives s) agg octets a h k) old new

-- one of the two systems is asked to free this conversation by force and answers a: done, or why not
abbrev pub HalfAsksForce : (ℕ → ℕ → ℕ → Type 0) → AggId → ℕ → Result Unit SystemFault → HalfState → HalfState → Type 0
HalfAsksForce gives agg conv a old new = HalfAnswers gives (Force agg conv) (answer.Force a) old new

-- system s does what a Force event asks, with this reply; nothing else changes
abbrev pub WorldForces : Algorithms → Side → AggId → ℕ → WorldState → Reply → WorldState → Type 0
WorldForces gives s agg conv old r new = InHalf s (λ h k. HalfForces (gives s) agg conv h r k) old new

-- a conversation of an aggregator has sent one more frame
abbrev pub with_sent_in : ℕ → ℕ → HalfState → HalfState
with_sent_in g k h = record h { flows = change_flow with_sent g k h.flows }

-- the reply to a Lose event: whether there was an item to lose
abbrev pub lost_reply : Bool → Reply
lost_reply lost = if lost then reply.Lost else reply.Empty

-- the first item on a cable towards a system is lost
abbrev pub WorldLoses : Side → ℕ → WorldState → Reply → WorldState → Type 0
WorldLoses s c old r new = OnLink c (λ i l. LosesFrom s i l (towards s l) old r new) old.links
