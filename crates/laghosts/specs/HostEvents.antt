-- Two systems and their hosts: the events, the five calls of `HostCall` that are no events, and the settings (profile).
use Rattle.std.specs.Prelude.{◌≡◌, ◌≤◌, ◌⊎◌, ℕ, Bool, ◌&&◌, ◌||◌, true, nat_lt, List, [], ◌∷◌, length, Option, Some, None, option_map, Result, Ok, Err}
use Rattle.lagtypes.specs.declared.identifiers.AggId.{AggId}
use Rattle.cables.specs.declared.item.Stamp.TheVariants as stamp
use Rattle.slowpdu.specs.Frames.{IsSlowProtocolsFrame}
use Rattle.distributor.specs.Chains.{is_held_on}
use Rattle.distributor.specs.Conversations.{assignment_of}
use Rattle.lagmodel.specs.World.{Side}
use Rattle.lagsystem.specs.declared.drive.HostCall.{HostCall}
use Rattle.lagsystem.specs.declared.drive.HostCall.TheVariants as host
use Rattle.lagsystem.specs.declared.drive.HostReply.{HostReply}
use Rattle.lagsystem.specs.declared.drive.HostReply.TheVariants as told
use Rattle.lagsystem.specs.declared.fault.SystemFault.{SystemFault}
use Rattle.lagsystem.specs.HostCalls.{HostPromise}
use Rattle.lagsystem.specs.Offers.{has_aggregator}
use Rattle.lagsystem.specs.Readers.{aggregator_numbered, conversation_count}
use Rattle.lagsystem.specs.Settings.{Setting, SettingPromise}
use Rattle.lagsystem.specs.State.{SystemState}
use Rattle.lagscript.specs.declared.event.Event.{Event}
use Rattle.lagscript.specs.declared.event.Event.TheVariants as event
use Rattle.lagworld.specs.declared.reply.Reply.{Reply}
use Rattle.lagworld.specs.State.{FlowValue, HalfState, ItemValue, WorldState, flow_at, forced_in, half, sent_in, with_half}
use Rattle.lagworld.specs.Asking.{with_sent_in}
use Rattle.lagworld.specs.HalfCalls.{forced_if_accepted, with_state}
use Rattle.lagworld.specs.Events.{Algorithms, WorldSteps, most_events, side_of, transmitted_item, with_item_sent}
use Rattle.lagworld.specs.Headline.{Headline}
use Rattle.lagworld.specs.Messages.{side_number}
use Rattle.lagworld.specs.ModelWorld.{world_setup}
use Rattle.lagworld.specs.Sound.{HeadlineFacts, IsSound}

-- An event; or one of the five calls of a system: a frame is offered by the number of its conversation, a conversation leaves its
-- port, a port is probed, a conversation rests, and what is held on a port is forced; or a setting of a system.
pub data HostEvent : Type 0 where
  Plays : (e : Event) → HostEvent
  Offers : (s : Side) (agg : AggId) (conv : ℕ) (octets : List ℕ) → HostEvent
  Leaves : (s : Side) (agg : AggId) (conv : ℕ) → HostEvent
  Probes : (s : Side) (port : ℕ) → HostEvent
  Rests : (s : Side) (agg : AggId) (conv : ℕ) → HostEvent
  ForcesPort : (s : Side) (port : ℕ) → HostEvent
  Sets : (s : Side) (setting : Setting) → HostEvent

-- The system of this half answers a call of a host as its contract says. Nothing else changes.
pub record HalfTells (gives : ℕ → ℕ → ℕ → Type 0) (call : HostCall) (a : HostReply) (old new : HalfState) : Type 0 where
  pub answers : HostPromise gives old.state call a new.state
  pub same : new ≡ with_state new.state old

-- The system of this half answers a setting as its contract says. Nothing else changes.
pub record HalfSets (setting : Setting) (a : Result Unit SystemFault) (old new : HalfState) : Type 0 where
  pub answers : SettingPromise old.state setting a new.state
  pub same : new ≡ with_state new.state old

-- the frame as an item with its stamp: its system, aggregator and conversation, and the conversation's next serial number
abbrev pub numbered_item : Side → AggId → ℕ → List ℕ → HalfState → ItemValue
numbered_item s agg conv octets h =
    record { octets = octets; stamp = stamp.Data (side_number s) agg.0 conv (length (sent_in (flow_at h.flows agg.0 conv))) }

-- the frame is sent on the port that was answered, as the next of its conversation; a refusal changes nothing
abbrev pub AfterNumberedOffer : Side → AggId → ℕ → List ℕ → Result ℕ SystemFault → WorldState → WorldState → Type 0
AfterNumberedOffer s agg conv octets (Ok port) old new =
    new ≡ with_item_sent s port (numbered_item s agg conv octets (half s old)) (with_half s (with_sent_in agg.0 conv (half s old)) old)
AfterNumberedOffer s agg conv octets (Err fault) old new = new ≡ old

-- the marker that was answered is sent on the port; without one nothing changes
abbrev pub AfterProbe : Side → ℕ → Result (Option (List ℕ)) SystemFault → WorldState → WorldState → Type 0
AfterProbe s p (Ok (Some frame)) old new = new ≡ with_item_sent s p (transmitted_item s p frame (half s old)) old
AfterProbe s p (Ok None) old new = new ≡ old
AfterProbe s p (Err fault) old new = new ≡ old

-- the record of a conversation that may have been forced
abbrev pub forced_if : Bool → FlowValue → FlowValue
forced_if b x = record x { forced = x.forced || b }

-- conversation k of aggregator g is there, and held on the port
abbrev pub is_held : ℕ → SystemState → ℕ → ℕ → Bool
is_held port s g k = has_aggregator s (aggregator_numbered g)
    && (nat_lt k (conversation_count s) && is_held_on port (assignment_of s.table g k))

-- each conversation that was held on the port in this state counts as forced, and nothing else is recorded
pub record CountsHeld (port : ℕ) (s : SystemState) (old new : HalfState) : Type 0 where
  pub state : new.state ≡ old.state
  pub histories : new.histories ≡ old.histories
  pub flows : (g k : ℕ) → flow_at new.flows g k ≡ option_map (forced_if (is_held port s g k)) (flow_at old.flows g k)

-- the same, unless there is no such port
abbrev pub CountsHeldIfOk : Result ℕ SystemFault → ℕ → SystemState → HalfState → HalfState → Type 0
CountsHeldIfOk (Ok count) port s old new = CountsHeld port s old new
CountsHeldIfOk (Err fault) port s old new = new ≡ old

-- From old, the event, call or setting of a host may lead to new. A host offers no slow protocols frame.
abbrev pub HostSteps : Algorithms → WorldState → HostEvent → WorldState → Type 0
HostSteps gives old (Plays e) new = (r : Reply) × WorldSteps gives old e r new
HostSteps gives old (Offers s agg conv octets) new =
    (a : Result ℕ SystemFault) × (mid : HalfState) × (IsSlowProtocolsFrame octets → ⊥)
    × HalfTells (gives s) (host.OfferConversation agg conv) (told.OfferConversation a) (half s old) mid
    × AfterNumberedOffer s agg conv octets a (with_half s mid old) new
HostSteps gives old (Leaves s agg conv) new =
    (a : Result Unit SystemFault) × (mid : HalfState)
    × HalfTells (gives s) (host.LeaveConversation agg conv) (told.LeaveConversation a) (half s old) mid × (new ≡ with_half s mid old)
HostSteps gives old (Probes s port) new =
    (a : Result (Option (List ℕ)) SystemFault) × (mid : HalfState) × HalfTells (gives s) (host.Probe port) (told.Probe a) (half s old) mid
    × AfterProbe s port a (with_half s mid old) new
HostSteps gives old (Rests s agg conv) new =
    (a : Result Unit SystemFault) × (mid : HalfState) × HalfTells (gives s) (host.Rest agg conv) (told.Rest a) (half s old) mid
    × (new ≡ with_half s (forced_if_accepted a agg conv mid) old)
HostSteps gives old (ForcesPort s port) new =
    (a : Result ℕ SystemFault) × (mid : HalfState) × (last : HalfState)
    × HalfTells (gives s) (host.ForcePort port) (told.ForcePort a) (half s old) mid
    × CountsHeldIfOk a port (half s old).state mid last × (new ≡ with_half s last old)
HostSteps gives old (Sets s setting) new =
    (a : Result Unit SystemFault) × (mid : HalfState) × HalfSets setting a (half s old) mid × (new ≡ with_half s mid old)

-- so one after another
abbrev pub HostRuns : Algorithms → WorldState → List HostEvent → WorldState → Type 0
HostRuns gives old [] new = new ≡ old
HostRuns gives old (e ∷ es) new = (mid : WorldState) × HostSteps gives old e mid × HostRuns gives mid es new

-- The world is sound and has the headline, with the configurations and cables of the one before. Each beginning of a list
-- is a list, so of a run from a sound world this holds of each world on the way.
pub record KeepsHeadline (old new : WorldState) : Type 0 where
  pub sound : IsSound new
  pub fixed : world_setup new ≡ world_setup old
  pub headline : Headline new
  pub carries : HeadlineFacts new

-- every list of events, calls and settings of hosts keeps the headline
abbrev pub HostsKeepHeadline : Algorithms → Type 0
HostsKeepHeadline gives = (es : List HostEvent) (old new : WorldState) → HostRuns gives old es new → IsSound old
    → new.acted ≤ most_events → KeepsHeadline old new

-- the event forces conversation k of aggregator g of system s, or lets it rest, or forces what is held on its port
abbrev pub MayForce : HostEvent → Side → ℕ → ℕ → WorldState → Type 0
MayForce (Plays (event.Force n agg conv)) s g k j = (side_of n ≡ Some s) × (agg.0 ≡ g) × (conv ≡ k)
MayForce (Rests t agg conv) s g k j = (t ≡ s) × (agg.0 ≡ g) × (conv ≡ k)
MayForce (ForcesPort t port) s g k j = (t ≡ s) × (is_held port (half s j).state g k ≡ true)
MayForce e s g k j = ⊥

-- in a sound world, a conversation counts as forced only after an event that forces it so
abbrev pub ForcedByForce : Algorithms → Type 0
ForcedByForce gives = (e : HostEvent) (old new : WorldState) (s : Side) (g k : ℕ) → HostSteps gives old e new → IsSound old
    → forced_in (flow_at (half s new).flows g k) ≡ true → (forced_in (flow_at (half s old).flows g k) ≡ true) ⊎ MayForce e s g k old
