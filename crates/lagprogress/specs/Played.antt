-- Healthy rounds that are played, whole or in part, and what they lead to (profile).
use Rattle.std.specs.Prelude.{◌≡◌, ◌≤◌, ◌⊎◌, ◌<◌, ◌++◌, ◌∷◌, ℕ, suc, Bool, false, true, List, None, Some, length, Option}
use Rattle.std.specs.List.{AllByRecursion}
use Rattle.cables.specs.declared.item.Item.{Item}
use Rattle.lagmodel.specs.World.{Side}
use Rattle.lagscript.specs.declared.config.WorldConfig.{WorldConfig}
use Rattle.lagscript.specs.declared.event.Event.{Event}
use Rattle.lagscript.specs.declared.event.Event.TheVariants as event
use Rattle.lagworld.specs.declared.agreement.Agreement.TheVariants.{Same}
use Rattle.lagworld.specs.declared.fault.WorldFault.{WorldFault}
use Rattle.lagworld.specs.declared.fault.WorldFault.TheVariants.{NoCable, NoMemory, Spent}
use Rattle.lagworld.specs.declared.reply.Reply.{Reply}
use Rattle.lagworld.specs.declared.reply.Reply.TheVariants as reply
use Rattle.lagworld.specs.Agreement.{agreement_at}
use Rattle.lagscript.specs.EventValues.{cable_named, system_named}
use Rattle.lagworld.specs.Events.{Algorithms, WorldRuns, has_system, most_events}
use Rattle.lagworld.specs.Making.{IsMade, refusal_with}
use Rattle.lagworld.specs.Sound.{IsStart, RefusesFor}
use Rattle.lagworld.specs.State.{LinkState, WorldState, half}
use Rattle.lagprogress.specs.Bundle.{AllHeard, EnoughLinks}
use Rattle.lagprogress.specs.Progress.{Distributes}
use Rattle.lagprogress.specs.Freed.{HasIdentifierLeft, NoneIsHeld}
use Rattle.lagprogress.specs.Rounds.{AtEnd, IsDeliver, IsHealthyAt, Rounds, asks_all, ticks_of_both}
use Rattle.lagprogress.specs.Shared.{HasAggregators}

-- all of these events act
pub record RunsAll (gives : Algorithms) (es : List Event) (old new : WorldState) : Type 0 where
  pub replies : List Reply
  pub acts : WorldRuns gives old es replies new

-- the first of these events act, and the next one is refused with this fault, as `World::step` refuses it
pub record RunsPart (gives : Algorithms) (es : List Event) (fault : WorldFault) (old new : WorldState) : Type 0 where
  pub first : List Event
  pub next : Event
  pub rest : List Event
  pub parts : first ++ (next ∷ rest) ≡ es
  pub acts : RunsAll gives first old new
  pub refused : RefusesFor new next fault

-- Deliver events and no others lead from one world to the other
pub record Delivers (gives : Algorithms) (old new : WorldState) : Type 0 where
  pub delivers : List Event
  pub arrives : AllByRecursion IsDeliver delivers
  pub acts : RunsAll gives delivers old new

-- a Deliver event is refused with this fault, as `World::step` refuses it
abbrev pub RefusesDelivery : WorldFault → WorldState → Type 0
RefusesDelivery fault j = (cable system : ℕ) × RefusesFor j (event.Deliver cable system) fault

-- a Deliver event with this reply found nothing on its cable
abbrev pub found_nothing : Reply → Bool
found_nothing reply.Empty = true
found_nothing r = false

-- the event names no cable, and no system that does not exist
abbrev pub NamesNoCable : Event → Type 0
NamesNoCable e = (cable_named e ≡ None) × (has_system (system_named e) ≡ true)

-- memory was refused, or no more events may act
abbrev pub IsOutOfMemoryOrSpent : WorldFault → WorldState → Type 0
IsOutOfMemoryOrSpent fault j = (fault ≡ NoMemory) ⊎ ((fault ≡ Spent) × (most_events ≤ j.acted))

-- the most cables that events can name
unfoldable pub most_cables : ℕ
most_cables = 65535

-- there are cables that no event can name, and nothing has changed
abbrev pub HasTooManyCables : WorldFault → WorldState → WorldState → Type 0
HasTooManyCables fault old new = (fault ≡ NoCable) × (most_cables < length old.links) × (new ≡ old)

-- a round is refused: it began, or there are too many cables
abbrev pub IsRefused : WorldFault → WorldState → WorldState → Type 0
IsRefused fault old new = IsOutOfMemoryOrSpent fault new ⊎ HasTooManyCables fault old new

-- the events of a round before anything is delivered
abbrev pub events_before_delivery : WorldState → List Event
events_before_delivery j = ticks_of_both ++ asks_all j.links

-- all of these act, and then Deliver events, until one of those is refused with this fault
pub record StopsDelivering (gives : Algorithms) (fault : WorldFault) (old new : WorldState) : Type 0 where
  pub asked : WorldState
  pub asks : RunsAll gives (events_before_delivery old) old asked
  pub delivers : Delivers gives asked new
  pub refused : RefusesDelivery fault new

-- A part of a round is played: the first of these events, or all of them and then Deliver events, until one is refused with this
-- fault; or none, since there are too many cables.
abbrev pub PlaysPart : Algorithms → WorldFault → WorldState → WorldState → Type 0
PlaysPart gives fault old new =
    RunsPart gives (events_before_delivery old) fault old new
    ⊎ (StopsDelivering gives fault old new ⊎ HasTooManyCables fault old new)

-- the round after `done` of them, which are fewer than `count`, is refused with this fault
pub record StopsInRound (gives : Algorithms) (fault : WorldFault) (count : ℕ) (old new : WorldState) : Type 0 where
  pub done : ℕ
  pub mid : WorldState
  pub within : done < count
  pub before : Rounds gives done old mid
  pub last : PlaysPart gives fault mid new
  pub refused : IsRefused fault mid new

-- Events lead to the world from one that `World::new` made, as its contract says.
pub record IsReached {C : Type 0} (items : C → List Item) (limit : C → Option ℕ) (gives : Algorithms) (j : WorldState) : Type 0 where
  pub config : WorldConfig
  pub lines : List (C × C)
  pub start : WorldState
  pub events : List Event
  pub replies : List Reply
  pub accepted : refusal_with items config lines ≡ None
  pub made : IsMade items limit config lines start
  pub starts : IsStart start
  pub runs : WorldRuns gives start events replies j
  pub few : j.acted ≤ most_events

-- each port whose link is up ends a healthy cable, of which this holds, and each system has aggregators and enough links
pub record IsReady (Holds : LinkState → WorldState → Type 0) (j : WorldState) : Type 0 where
  pub heard : AllHeard Holds j
  pub aggregators : (s : Side) → HasAggregators s j
  pub links : (s : Side) → EnoughLinks (half s j).state

-- both ends of each cable that is healthy in the old world distribute in the new one
abbrev pub EachDistributes : WorldState → WorldState → Type 0
EachDistributes old new = (i : ℕ) (l : LinkState) → IsHealthyAt i l old → (s : Side) → AtEnd Distributes s l new

-- each of these cables agrees in the new one
abbrev pub EachAgrees : WorldState → WorldState → Type 0
EachAgrees old new = (i : ℕ) (l : LinkState) → IsHealthyAt i l old → agreement_at new (suc i) ≡ Some Same

-- in the new one no conversation is held, of a system that has an identifier left
abbrev pub NothingStaysHeld : WorldState → WorldState → Type 0
NothingStaysHeld old new = (s : Side) → HasIdentifierLeft (half s new).state → NoneIsHeld (half s new).state

module _ {C : Type 0} (items : C → List Item) (limit : C → Option ℕ) where
  -- So it is after at least so many rounds, if the old world was reached from one that was made, and is ready.
  abbrev pub LeadsTo : (WorldState → WorldState → Type 0) → (LinkState → WorldState → Type 0) → ℕ → Algorithms → ℕ → WorldState → WorldState
      → Type 0
  LeadsTo Then Holds least gives count old new = IsReached items limit gives old → IsReady Holds old → least ≤ count → Then old new
