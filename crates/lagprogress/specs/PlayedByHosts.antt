-- Healthy rounds of hosts that are played, whole or in part (profile).
use Rattle.std.specs.Prelude.{◌≡◌, ◌⊎◌, ◌<◌, ℕ, zero, suc, List, Some, length, map}
use Rattle.std.specs.List.{AllByRecursion}
use Rattle.lagmodel.specs.World.{Side, end_at}
use Rattle.lagscript.specs.declared.event.Event.{Event}
use Rattle.lagscript.specs.declared.event.Event.TheVariants as event
use Rattle.lagworld.specs.declared.fault.WorldFault.{WorldFault}
use Rattle.lagworld.specs.declared.reply.Reply.{Reply}
use Rattle.lagworld.specs.Events.{Algorithms, WorldRuns, side_of}
use Rattle.lagworld.specs.ModelWorld.{world_setup}
use Rattle.laghosts.specs.HostEvents.{Plays}
use Rattle.lagworld.specs.Sound.{RefusesFor}
use Rattle.lagworld.specs.State.{WorldState}
use Rattle.lagprogress.specs.HostFreed.{AsksInVain}
use Rattle.lagprogress.specs.HostRounds.{HostRounds}
use Rattle.lagprogress.specs.Played.{Delivers, HasTooManyCables, IsRefused, RunsAll, RunsPart}
use Rattle.lagprogress.specs.Rounds.{NothingInFlight, ticks_of_both}
use Rattle.lagprogress.specs.Steady.{IsSteady}

-- a port is asked, or something on a cable arrives
abbrev pub AsksOrDelivers : Event → Type 0
AsksOrDelivers (event.Emit n p) = Unit {0}
AsksOrDelivers (event.Deliver c n) = Unit {0}
AsksOrDelivers _ = ⊥

-- such events lead from one world to the other
pub record PlaysBetween (gives : Algorithms) (old new : WorldState) : Type 0 where
  pub events : List Event
  pub replies : List Reply
  pub between : AllByRecursion AsksOrDelivers events
  pub acts : WorldRuns gives old events replies new

-- so they do, and one more is refused with this fault, as `World::step` refuses it
pub record StopsBetween (gives : Algorithms) (fault : WorldFault) (old new : WorldState) : Type 0 where
  pub played : PlaysBetween gives old new
  pub next : Event
  pub between : AsksOrDelivers next
  pub refused : RefusesFor new next fault

-- so they do, and ask port p of the system with this number until it sends nothing
pub record AsksPort (gives : Algorithms) (number p : ℕ) (old new : WorldState) : Type 0 where
  pub played : PlaysBetween gives old new
  pub asks : (s : Side) → side_of number ≡ Some s → AsksInVain s p (map Plays played.events) played.replies

-- so they do, and ask both ends of the first `count` cables until they send nothing
pub record AsksEnds (gives : Algorithms) (count : ℕ) (old new : WorldState) : Type 0 where
  pub played : PlaysBetween gives old new
  pub asks : (s : Side) (i p : ℕ) → i < count → end_at (world_setup old).cables s (suc i) ≡ Some p
      → AsksInVain s p (map Plays played.events) played.replies

-- so many times, items arrive, and then both ends of the first `count` cables are asked until they send nothing
abbrev pub DeliversAndAsks : Algorithms → (count times : ℕ) → WorldState → WorldState → Type 0
DeliversAndAsks gives count zero old new = new ≡ old
DeliversAndAsks gives count (suc n) old new = (mid delivered : WorldState)
    × DeliversAndAsks gives count n old mid × Delivers gives mid delivered × AsksEnds gives count delivered new

-- so it is, until nothing is on any cable; Deliver events find that
pub record EmptiesCables (gives : Algorithms) (count : ℕ) (old new : WorldState) : Type 0 where
  pub times : ℕ
  pub asked : WorldState
  pub plays : DeliversAndAsks gives count times old asked
  pub empty : NothingInFlight asked
  pub last : Delivers gives asked new
  pub empties : NothingInFlight new

-- a healthy round of hosts in which both systems tick, both ends of all cables are asked until they send nothing, and so again after
-- items arrive, until nothing is on any cable
pub record PlaysHostRound (gives : Algorithms) (old new : WorldState) : Type 0 where
  pub ticked : WorldState
  pub asked : WorldState
  pub ticks : RunsAll gives ticks_of_both old ticked
  pub fixed : world_setup ticked ≡ world_setup old
  pub asks : AsksEnds gives (length old.links) ticked asked
  pub later : EmptiesCables gives (length old.links) asked new

-- and so many of them
abbrev pub PlaysHostRounds : Algorithms → ℕ → WorldState → WorldState → Type 0
PlaysHostRounds gives zero old new = new ≡ old
PlaysHostRounds gives (suc n) old new = (mid : WorldState) × PlaysHostRounds gives n old mid × PlaysHostRound gives mid new

-- both systems tick, and then such events act, until one is refused with this fault
pub record StopsAfterTicks (gives : Algorithms) (fault : WorldFault) (old new : WorldState) : Type 0 where
  pub ticked : WorldState
  pub ticks : RunsAll gives ticks_of_both old ticked
  pub stops : StopsBetween gives fault ticked new

-- A part of a healthy round of hosts is played: a tick is refused with this fault, or a later event; or none is played, since there are
-- too many cables.
abbrev pub PlaysHostPart : Algorithms → WorldFault → WorldState → WorldState → Type 0
PlaysHostPart gives fault old new =
    RunsPart gives ticks_of_both fault old new ⊎ (StopsAfterTicks gives fault old new ⊎ HasTooManyCables fault old new)

-- the round after `done` of them, which are fewer than `count`, is refused with this fault
pub record StopsInHostRounds (gives : Algorithms) (fault : WorldFault) (count : ℕ) (old new : WorldState) : Type 0 where
  pub done : ℕ
  pub mid : WorldState
  pub within : done < count
  pub plays : PlaysHostRounds gives done old mid
  pub before : IsSteady old → HostRounds gives done old mid
  pub last : PlaysHostPart gives fault mid new
  pub refused : IsRefused fault mid new
