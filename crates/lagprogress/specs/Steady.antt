-- What holds of both systems of each world that events lead to (profile).
use Rattle.std.specs.Prelude.{ℕ, ◌≤◌, List}
use Rattle.lagmodel.specs.World.{Side}
use Rattle.lagsystem.specs.declared.config.Config.{Config}
use Rattle.lagsystem.specs.declared.drive.Reply.{Reply as Answer}
use Rattle.lagsystem.specs.Calls.{Call, TableRun}
use Rattle.lagsystem.specs.Sound.{IsSound, NoneHeld}
use Rattle.lagsystem.specs.State.{SystemState}
use Rattle.lagscript.specs.declared.event.Event.{Event}
use Rattle.lagworld.specs.declared.reply.Reply.{Reply}
use Rattle.lagworld.specs.Events.{Algorithms, WorldRuns, WorldSteps, most_events}
use Rattle.lagworld.specs.Making.{AreFirst}
use Rattle.lagworld.specs.Sound.{IsSound as IsSoundWorld, IsStart}
use Rattle.lagworld.specs.State.{WorldState, half}
use Rattle.laghosts.specs.HostEvents.{HostEvent, HostRuns}
use Rattle.lagbeside.specs.Timers.{PortsAreTimed}

-- the system is sound, no timer of its ports is above its bound, and the host holds no port
abbrev pub IsSteadySystem : SystemState → Type 0
IsSteadySystem s = IsSound s × PortsAreTimed s × NoneHeld s

-- both systems of the world are so
abbrev pub IsSteady : WorldState → Type 0
IsSteady j = (s : Side) → IsSteadySystem (half s j).state

-- a world that has just been made, of two systems in their first states, is so
abbrev pub StartIsSteady : Type 0
StartIsSteady = (configs : List Config) (j : WorldState) → IsStart j → AreFirst configs j → IsSteady j

-- and each event keeps it
abbrev pub EachEventKeepsSteady : Algorithms → Type 0
EachEventKeepsSteady gives = (e : Event) (r : Reply) (old new : WorldState) → WorldSteps gives old e r new → IsSteady old
    → IsSteady new

-- and so does each list of events
abbrev pub EachRunKeepsSteady : Algorithms → Type 0
EachRunKeepsSteady gives = (es : List Event) (rs : List Reply) (old new : WorldState) → WorldRuns gives old es rs new → IsSteady old
    → IsSteady new

-- so each world that events lead to from a start is so, and sound, if no more events acted than may
abbrev pub EachReachedIsSteady : Algorithms → Type 0
EachReachedIsSteady gives = (configs : List Config) (es : List Event) (rs : List Reply) (start new : WorldState) → IsStart start
    → AreFirst configs start → WorldRuns gives start es rs new → new.acted ≤ most_events → IsSoundWorld new × IsSteady new

-- So does each list of events, calls and settings of hosts, if the host holds no port in the end.
abbrev pub EachHostRunKeepsSteady : Algorithms → Type 0
EachHostRunKeepsSteady gives = (es : List HostEvent) (old new : WorldState) → HostRuns gives old es new → IsSteady old
    → ((s : Side) → NoneHeld (half s new).state) → IsSteady new

-- and each world that they lead to from a start is so then, and sound
abbrev pub EachHostReachedIsSteady : Algorithms → Type 0
EachHostReachedIsSteady gives = (configs : List Config) (es : List HostEvent) (start new : WorldState) → IsStart start
    → AreFirst configs start → HostRuns gives start es new → new.acted ≤ most_events → ((s : Side) → NoneHeld (half s new).state)
    → IsSoundWorld new × IsSteady new

-- some calls lead from one state of a system to another
abbrev pub GoesByCalls : (ℕ → ℕ → ℕ → Type 0) → SystemState → SystemState → Type 0
GoesByCalls gives old new = (calls : List Call) × (answers : List Answer) × TableRun gives old calls answers new

-- each event of a world is a list of calls of each of its systems
abbrev pub EachEventIsCalls : Algorithms → Type 0
EachEventIsCalls gives = (e : Event) (r : Reply) (old new : WorldState) → WorldSteps gives old e r new
    → (s : Side) → GoesByCalls (gives s) (half s old).state (half s new).state
