-- No conversation stays held while markers are answered (profile).
use Rattle.std.specs.Prelude.{◌≡◌, ◌≤◌, ℕ, true, List, Option, None, Some, IsSome, slice_get}
use Rattle.distributor.specs.declared.assignment.Assignment.{Assignment}
use Rattle.distributor.specs.declared.assignment.Assignment.TheVariants.{Free, On, Wanted, Flushing}
use Rattle.distributor.specs.Conversations.{IsConversation, assignment_of, next_identifier}
use Rattle.lagmodel.specs.World.{Side}
use Rattle.lagsystem.specs.declared.config.Config.{Config}
use Rattle.lagsystem.specs.declared.system_ports.SystemPort.{SystemPort}
use Rattle.lagsystem.specs.State.{SystemState}
use Rattle.lagworld.specs.Events.{Algorithms}
use Rattle.lagworld.specs.Making.{AreFirst}
use Rattle.lagworld.specs.Sound.{IsStart}
use Rattle.lagworld.specs.State.{LinkState, WorldState, half}
use Rattle.laghosts.specs.HostEvents.{HostEvent, HostRuns}
use Rattle.lagprogress.specs.Bundle.{IsBundle}
use Rattle.lagprogress.specs.Rounds.{Rounds}

-- the port that the conversation is held on: a marker is to be sent there, or its response is waited for
abbrev pub held_on : Assignment → Option ℕ
held_on (Free preferred) = None
held_on (On port) = None
held_on (Wanted port preferred) = Some port
held_on (Flushing port id preferred age) = Some port

-- the port that carries the conversation, or on which it is held
abbrev pub carrier_of : Assignment → Option ℕ
carrier_of (Free preferred) = None
carrier_of (On port) = Some port
carrier_of (Wanted port preferred) = Some port
carrier_of (Flushing port id preferred age) = Some port

-- conversation k of aggregator g of the system is not held on port n
abbrev pub IsNotHeldOn : ℕ → (g k : ℕ) → SystemState → Type 0
IsNotHeldOn n g k s = IsConversation s.table g k → held_on (assignment_of s.table g k) ≡ Some n → ⊥

-- it is not held
abbrev pub IsNotHeld : (g k : ℕ) → SystemState → Type 0
IsNotHeld g k s = IsConversation s.table g k → held_on (assignment_of s.table g k) ≡ None

-- no conversation of the system is held on port n
abbrev pub NoneIsHeldOn : ℕ → SystemState → Type 0
NoneIsHeldOn n s = (g k : ℕ) → IsNotHeldOn n g k s

-- no conversation of the system is held
abbrev pub NoneIsHeld : SystemState → Type 0
NoneIsHeld s = (g k : ℕ) → IsNotHeld g k s

-- an identifier is left for one more marker
abbrev pub HasIdentifierLeft : SystemState → Type 0
HasIdentifierLeft s = IsSome (next_identifier s.table)

-- the system has a port with this number, and its link is up
abbrev pub HasPortUp : ℕ → SystemState → Type 0
HasPortUp n s = (k : ℕ) × (x : SystemPort) × (slice_get s.system_ports k ≡ Some x) × (x.number ≡ n) × (x.port.enabled ≡ true)

-- the link of each port that carries a conversation, or on which one is held, is up
abbrev pub CarriersAreUp : SystemState → Type 0
CarriersAreUp s = (g k p : ℕ) → IsConversation s.table g k → carrier_of (assignment_of s.table g k) ≡ Some p → HasPortUp p s

-- After so many healthy rounds of a bundle or more, whatever was before them, no conversation of a system is held at all, if the links of the
-- ports were up that carried one, or held one, and it has an identifier left in the end.
abbrev pub NothingIsHeld : (LinkState → WorldState → Type 0) → ℕ → Algorithms → Type 0
NothingIsHeld Holds least gives = (n : ℕ) (old new : WorldState) (s : Side) → IsBundle Holds old → CarriersAreUp (half s old).state
    → least ≤ n → Rounds gives n old new → HasIdentifierLeft (half s new).state → NoneIsHeld (half s new).state

-- So it is with both systems of each world that events, calls of hosts and settings lead to from a start.
abbrev pub EachHostReachedHasCarriersUp : Algorithms → Type 0
EachHostReachedHasCarriersUp gives = (configs : List Config) (es : List HostEvent) (start new : WorldState) → IsStart start
    → AreFirst configs start → HostRuns gives start es new → (s : Side) → CarriersAreUp (half s new).state
