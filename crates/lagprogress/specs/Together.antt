-- Ports of one group (LAG ID) are in one aggregator, though several have their key (6.3.6, 6.4.14; profile).
use Rattle.std.specs.Prelude.{◌≡◌, ◌≤◌, ℕ, true, false, List, Some, slice_get}
use Rattle.lagtypes.specs.declared.identifiers.AggId.{AggId}
use Rattle.lagtypes.specs.declared.identifiers.Key.{Key}
use Rattle.lagtypes.specs.declared.party.Choice.TheVariants.{Selected}
use Rattle.lagtypes.specs.Group.{SamePair, individual}
use Rattle.slowpdu.specs.Parties.{party_of}
use Rattle.selection.specs.Joining.{ends}
use Rattle.lagmodel.specs.World.{Side}
use Rattle.lagsystem.specs.declared.config.Config.{Config}
use Rattle.lagsystem.specs.declared.system_ports.SystemPort.{SystemPort}
use Rattle.lagsystem.specs.declared.drive.HostCall.{HostCall}
use Rattle.lagsystem.specs.declared.drive.HostReply.{HostReply}
use Rattle.lagsystem.specs.First.{IsFirst}
use Rattle.lagsystem.specs.HostCalls.{HostRun}
use Rattle.lagsystem.specs.Occupants.{occupied}
use Rattle.lagsystem.specs.Sound.{IsSound}
use Rattle.lagsystem.specs.State.{SystemState}
use Rattle.lagsystem.specs.Views.{selection_view}
use Rattle.lagscript.specs.declared.event.Event.{Event}
use Rattle.lagworld.specs.declared.reply.Reply.{Reply}
use Rattle.lagworld.specs.Events.{Algorithms, WorldRuns}
use Rattle.lagworld.specs.Making.{AreFirst}
use Rattle.lagworld.specs.Sound.{IsStart}
use Rattle.lagworld.specs.State.{LinkState, WorldState, half}
use Rattle.lagprogress.specs.Bundle.{IsBundle}
use Rattle.lagprogress.specs.Rounds.{Playing}
use Rattle.lagprogress.specs.Shared.{AreOneGroup}

-- no two aggregators of the system have occupants of one group, unless it is Individual
abbrev pub GroupsAreWhole : SystemState → Type 0
GroupsAreWhole s = (g h i j : ℕ) (x y : SystemPort) → slice_get s.system_ports i ≡ Some x → slice_get s.system_ports j ≡ Some y
    → occupied x.port.choice ≡ Some g → occupied y.port.choice ≡ Some h → SamePair (ends (selection_view x)) (ends (selection_view y))
    → individual x.port.party (party_of x.port.partner) ≡ false → g ≡ h

-- so it is after a start
abbrev pub FirstGroupsAreWhole : Type 0
FirstGroupsAreWhole = (s : SystemState) → IsFirst s → GroupsAreWhole s

-- and any calls of a host keep it in a sound system
abbrev pub CallsKeepGroupsWhole : (ℕ → ℕ → ℕ → Type 0) → Type 0
CallsKeepGroupsWhole gives = (old new : SystemState) (calls : List HostCall) (answers : List HostReply) → IsSound old → GroupsAreWhole old
    → HostRun gives old calls answers new → GroupsAreWhole new

-- so both systems of a world are that events lead to from one that was made
abbrev pub ReachedGroupsAreWhole : Algorithms → Type 0
ReachedGroupsAreWhole gives = (configs : List Config) (es : List Event) (rs : List Reply) (start new : WorldState) → IsStart start
    → AreFirst configs start → WorldRuns gives start es rs new → (s : Side) → GroupsAreWhole (half s new).state

-- the ports of system s with this key whose links are up are SELECTED in one aggregator
abbrev pub AreInOneAggregator : Side → Key → WorldState → Type 0
AreInOneAggregator s key j = (i k : ℕ) (x y : SystemPort) → slice_get (half s j).state.system_ports i ≡ Some x
    → slice_get (half s j).state.system_ports k ≡ Some y → x.port.enabled ≡ true → y.port.enabled ≡ true → x.port.party.key ≡ key
    → y.port.party.key ≡ key → (agg : AggId) × (x.port.choice ≡ Selected agg) × (y.port.choice ≡ Selected agg)

-- So the ports of a key are that are one group, after so many rounds of a bundle or more, whatever was before them.
abbrev pub EachKeyIsInOneAggregator : Playing → (LinkState → WorldState → Type 0) → ℕ → Algorithms → Type 0
EachKeyIsInOneAggregator Plays Holds least gives = (n : ℕ) (old new : WorldState) (s : Side) (key : Key) → IsBundle Holds old
    → GroupsAreWhole (half s old).state → AreOneGroup s key old → least ≤ n → Plays gives n old new → AreInOneAggregator s key new
