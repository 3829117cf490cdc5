-- The invariant of a world, and what holds of it after each event.
use Rattle.std.specs.Prelude.{◌≡◌, ◌≤◌, ◌<◌, ℕ, true, false, List, [], ◌∷◌, length, map, Option, Some, None, IsSome, take, slice_get, ◌⊎◌}
use Rattle.cables.specs.declared.item.Stamp.{Stamp}
use Rattle.cables.specs.declared.item.Stamp.TheVariants as stamp
use Rattle.slowpdu.specs.Frames.{IsSlowProtocolsFrame}
use Rattle.lagmodel.specs.World.{Side, One, Two, peer, IsCabling, Event as ModelEvent, Run, first_world}
use Rattle.lagmodel.specs.Law.{LastLacpduSaysInSync, UpToDateLacpdusNameSender, OnItsCable, FlushedByMarker, BelowNext}
use Rattle.lagmodel.specs.Law.{CollectedThenInFlight, CountsFromZero}
use Rattle.lagmodel.specs.View.{first_view}
use Rattle.lagsystem.specs.ModelView.{model_setup, model_view}
use Rattle.lagsystem.specs.Sound.{PortsAgree}
use Rattle.lagsystem.specs.Readers.{conversation_count}
use Rattle.lagscript.specs.declared.event.Event.{Event}
use Rattle.lagworld.specs.declared.reply.Reply.{Reply}
use Rattle.lagworld.specs.declared.fault.RunFault.{RunFault}
use Rattle.lagworld.specs.declared.fault.WorldFault.{WorldFault}
use Rattle.lagworld.specs.declared.fault.WorldFault.TheVariants.{NoMemory}
use Rattle.lagworld.specs.declared.histories.PortHistory.{PortHistory}
use Rattle.lagworld.specs.State.{ItemValue, HalfState, FlowValue, LinkState, WorldState, half, port_at, towards, flow_at, history_at}
use Rattle.lagworld.specs.HalfCalls.{party_of_port}
use Rattle.lagworld.specs.Events.{Algorithms, WorldRuns, most_events, cause, cause_or_no_memory, may_take_memory, model_event}
use Rattle.lagworld.specs.Messages.{side_numbered}
use Rattle.lagworld.specs.ModelWorld.{world_setup, model_world}

-- the distribution algorithms of system 1 and of system 2
abbrev pub both_algorithms : (ℕ → ℕ → ℕ → Type 0) → (ℕ → ℕ → ℕ → Type 0) → Algorithms
both_algorithms a b One = a
both_algorithms a b Two = b

-- the event at this index of the list, the first that has not acted
abbrev pub next_of : List Event → ℕ → Option Event
next_of es n = slice_get es n

-- The event is refused with the first reason that holds; or, if none does, for memory, if it may take any.
pub record RefusesFor (j : WorldState) (e : Event) (fault : WorldFault) : Type 0 where
  pub named : fault ≡ cause_or_no_memory (cause j e)
  pub memory : cause j e ≡ None → may_take_memory e ≡ true

-- there is a next event, and it is refused with this fault
abbrev pub RefusesNext : WorldState → Option Event → WorldFault → Type 0
RefusesNext j None fault = ⊥
RefusesNext j (Some e) fault = RefusesFor j e fault

-- the list of events leads from one world to the other in the model
abbrev pub RunsInModel : WorldState → List Event → WorldState → Type 0
RunsInModel old es new = Run (world_setup old) (map model_event es) (model_world old) (model_world new)

-- A list of events stopped: `done` events acted, and then the next one was refused; or none acted, since there was no
-- memory for the replies.
pub record RunStops (gives : Algorithms) (old : WorldState) (es : List Event) (stop : RunFault) (new : WorldState) : Type 0 where
  pub replies : List Reply
  pub within : stop.done ≤ length es
  pub acted : WorldRuns gives old (take stop.done es) replies new
  pub happened : RunsInModel old (take stop.done es) new
  pub fault : ((stop.done ≡ 0) × (stop.fault ≡ NoMemory)) ⊎ RefusesNext new (next_of es stop.done) stop.fault

-- the invariants on which the headline rests
pub record HeadlineFacts (j : WorldState) : Type 0 where
  pub took_synchronized : LastLacpduSaysInSync (model_world j)
  pub names_present : UpToDateLacpdusNameSender (world_setup j) (model_world j)
  pub on_its_cable : OnItsCable (world_setup j) (model_world j)
  pub flushed_by_marker : FlushedByMarker (world_setup j) (model_world j)
  pub below_next : BelowNext (model_world j)
  pub collected_then_in_flight : CollectedThenInFlight (model_world j)
  pub counts_from_zero : CountsFromZero (model_world j)

-- the world is reached, in the model, from the start of the two systems
abbrev pub IsReached : WorldState → Type 0
IsReached j = (events : List ModelEvent) × Run (world_setup j) events (first_world (world_setup j)) (model_world j)

-- An item towards a system is what its stamp says: a data frame comes from the peer, belongs to a conversation that
-- exists, and is no control frame.
abbrev pub IsItem : Side → List ℕ → Stamp → WorldState → Type 0
IsItem s octets (stamp.Control count) j = Unit {0}
IsItem s octets (stamp.Data system agg conv serial) j =
    (side_numbered system ≡ peer s) × IsSome (flow_at (half (peer s) j).flows agg conv) × (IsSlowProtocolsFrame octets → ⊥)

-- each item of the list, on its way to system s, is what its stamp says
abbrev pub AreItems : Side → List ItemValue → WorldState → Type 0
AreItems s [] j = Unit {0}
AreItems s (item ∷ rest) j = IsItem s item.octets item.stamp j × AreItems s rest j

-- The histories and records of a system fit its state: each port has a history with its own parameters, and each
-- conversation of each aggregator has its record.
pub record IsHalfSound (h : HalfState) : Type 0 where
  pub agrees : PortsAgree h.state
  pub parties : (p : ℕ) (history : PortHistory) → history_at h.histories p ≡ Some history → party_of_port h.state p ≡ Some history.party
  pub logged : (p : ℕ) → IsSome (party_of_port h.state p) → IsSome (history_at h.histories p)
  pub flows : (g k : ℕ) → 0 < g → g ≤ length h.state.keys → k < conversation_count h.state → IsSome (flow_at h.flows g k)

-- no port's change count is above this number
abbrev pub AreBelow : ℕ → List PortHistory → Type 0
AreBelow n [] = Unit {0}
AreBelow n (history ∷ histories) = (history.count ≤ n) × AreBelow n histories

-- The invariant of a world: of the histories and records of each system; no port has two cables; items are what their
-- stamps say; ends of cables are ports; counts cannot overflow; and the world is reached in the model.
pub record IsSound (j : WorldState) : Type 0 where
  pub kept : (s : Side) → IsHalfSound (half s j)
  pub cabling : IsCabling (world_setup j).cables
  pub items : (s : Side) (i : ℕ) (l : LinkState) → slice_get j.links i ≡ Some l → AreItems s (towards s l) j
  pub ends : (s : Side) (i : ℕ) (l : LinkState) → slice_get j.links i ≡ Some l → IsSome (history_at (half s j).histories (port_at s l))
  pub few : j.acted ≤ most_events
  pub counts : (s : Side) → AreBelow j.acted (half s j).histories
  pub reached : IsReached j

-- A world that has just been made: both systems have just started, every cable is whole and empty, nothing was counted,
-- received, sent, collected or forced, and no event has acted.
pub record IsStart (j : WorldState) : Type 0 where
  pub kept : (s : Side) → IsHalfSound (half s j)
  pub shows : (s : Side) → model_view (half s j).state ≡ first_view (model_setup (half s j).state)
  pub cabling : IsCabling (world_setup j).cables
  pub empty : (s : Side) (i : ℕ) (l : LinkState) → slice_get j.links i ≡ Some l → (towards s l ≡ []) × (l.whole ≡ true)
  pub ends : (s : Side) (i : ℕ) (l : LinkState) → slice_get j.links i ≡ Some l → IsSome (history_at (half s j).histories (port_at s l))
  pub counts : (s : Side) → AreBelow 0 (half s j).histories
  pub histories : (s : Side) (p : ℕ) (history : PortHistory) → history_at (half s j).histories p ≡ Some history → (history.count ≡ 0)
      × (history.taken ≡ None)
  pub flows : (s : Side) (g k : ℕ) (x : FlowValue) → flow_at (half s j).flows g k ≡ Some x → (x.sent ≡ []) × (x.collected ≡ [])
      × (x.forced ≡ false)
  pub acted : j.acted ≡ 0
