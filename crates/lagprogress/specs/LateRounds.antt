-- A healthy round of a world whose hosts tick by clocks of their own, and whose frames take up to a tick to arrive (profile).
use Rattle.std.specs.Prelude.{◌≡◌, ◌⊎◌, ℕ, zero, suc, List, [], ◌∷◌, length, Some}
use Rattle.lagmodel.specs.World.{IsCabling, Side}
use Rattle.lagscript.specs.declared.event.Event.TheVariants as event
use Rattle.lagworld.specs.Events.{Algorithms, side_of}
use Rattle.laghosts.specs.HostEvents.{HostEvent, Plays}
use Rattle.lagworld.specs.ModelWorld.{world_setup}
use Rattle.lagworld.specs.State.{LinkState, WorldState, towards}
use Rattle.lagprogress.specs.HostRounds.{Clearing, HostRounds, IsHostRound, IsPlayed, PlayedRounds}
use Rattle.lagprogress.specs.Rounds.{IsHealthyAt}

-- the event is that the first item on the cable at index i towards system s arrives, if there is one
abbrev pub IsArrivalAt : Side → ℕ → HostEvent → Type 0
IsArrivalAt s i e = (n : ℕ) × (side_of n ≡ Some s) × (e ≡ Plays (event.Deliver (suc i) n))

-- so many of the events are, or more
abbrev pub ArriveIn : ℕ → Side → ℕ → List HostEvent → Type 0
ArriveIn zero s i es = Unit {0}
ArriveIn (suc k) s i [] = ⊥
ArriveIn (suc k) s i (e ∷ es) = (IsArrivalAt s i e × ArriveIn k s i es) ⊎ ArriveIn (suc k) s i es

-- What was on each healthy cable arrives among the events: a cable is first in, first out, so as many arrive as were on it.
abbrev pub OldArrive : Clearing
OldArrive events old new = (s : Side) (i : ℕ) (l : LinkState) → IsHealthyAt i l old → ArriveIn (length (towards s l)) s i events

-- A healthy round of hosts in which frames are late: it may end with frames on the cables, which arrive in the next one. Two hosts play
-- such rounds, each of 100 ms, if their clocks have one rate, they ask each port at once after a tick, and no frame takes longer than that.
abbrev pub IsLateRound : Algorithms → WorldState → WorldState → Type 0
IsLateRound gives old new = IsPlayed OldArrive gives old new

-- and so many of them
abbrev pub LateRounds : Algorithms → ℕ → WorldState → WorldState → Type 0
LateRounds gives n old new = PlayedRounds OldArrive gives n old new

-- each healthy round of hosts is one, if no port has two cables
abbrev pub HostRoundIsLateRound : Algorithms → Type 0
HostRoundIsLateRound gives = (old new : WorldState) → IsCabling (world_setup old).cables → IsHostRound gives old new → IsLateRound gives old new

-- and so many of them are as many
abbrev pub HostRoundsAreLateRounds : Algorithms → Type 0
HostRoundsAreLateRounds gives = (n : ℕ) (old new : WorldState) → IsCabling (world_setup old).cables → HostRounds gives n old new
    → LateRounds gives n old new
