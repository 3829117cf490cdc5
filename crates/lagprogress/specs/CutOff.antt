-- What becomes of a port that is cut off, beside any others (6.4.12; profile).
use Rattle.std.specs.Prelude.{◌≡◌, ◌≤◌, ◌⊎◌, ℕ, suc, true, false, Some, slice_get}
use Rattle.portmachines.specs.declared.receive.ReceiveState.TheVariants.{Defaulted}
use Rattle.lagmodel.specs.World.{IsCabling, Side, peer}
use Rattle.lagsystem.specs.declared.system_ports.SystemPort.{SystemPort}
use Rattle.lagworld.specs.declared.agreement.Agreement.TheVariants.{Same}
use Rattle.lagworld.specs.Agreement.{agreement_at}
use Rattle.lagworld.specs.Events.{Algorithms}
use Rattle.lagworld.specs.ModelWorld.{world_setup}
use Rattle.lagworld.specs.Sound.{IsSound}
use Rattle.lagworld.specs.State.{LinkState, WorldState, half, port_at}
use Rattle.lagprogress.specs.Bundle.{EndsHealthyCable, EnoughAggregators, EnoughLinks, OneIsActive, SystemsDiffer}
use Rattle.lagprogress.specs.Progress.{Distributes}
use Rattle.lagprogress.specs.Rounds.{AtEnd, IsHealthyAt, Playing}
use Rattle.lagprogress.specs.Steady.{IsSteady}

-- each port of system s with this number has its link down
abbrev pub IsDown : Side → ℕ → WorldState → Type 0
IsDown s number j = (k : ℕ) (x : SystemPort) → slice_get (half s j).state.system_ports k ≡ Some x → x.number ≡ number
    → x.port.enabled ≡ false

-- each cable of port `number` of system s is cut, or silent: it ends at a port whose link is down
abbrev pub IsCutOff : Side → ℕ → WorldState → Type 0
IsCutOff s number j = (i : ℕ) (l : LinkState) → slice_get j.links i ≡ Some l → port_at s l ≡ number
    → (l.whole ≡ false) ⊎ IsDown (peer s) (port_at (peer s) l) j

-- After 931 rounds or more, whatever was before them and whatever the other cables are, a port whose link is up and that
-- is cut off is DEFAULTED.
abbrev pub CutOffIsDefaulted : Playing → Algorithms → Type 0
CutOffIsDefaulted Plays gives = (n k : ℕ) (s : Side) (x y : SystemPort) (old new : WorldState) → IsSteady old
    → slice_get (half s old).state.system_ports k ≡ Some x → x.port.enabled ≡ true → IsCutOff s x.number old
    → 931 ≤ n → Plays gives n old new → slice_get (half s new).state.system_ports k ≡ Some y → y.port.receive ≡ Defaulted

-- each port whose link is up ends a healthy cable with an active end, or is cut off
abbrev pub AllHeardOrCutOff : WorldState → Type 0
AllHeardOrCutOff j = (s : Side) (k : ℕ) (x : SystemPort) → slice_get (half s j).state.system_ports k ≡ Some x → x.port.enabled ≡ true
    → EndsHealthyCable OneIsActive s x.number j ⊎ IsCutOff s x.number j

-- As `IsBundle`, but beside the healthy cables there may be ports that are cut off while their links are up.
pub record IsBundleBesideCutOffs (j : WorldState) : Type 0 where
  pub steady : IsSteady j
  pub cabling : IsCabling (world_setup j).cables
  pub differ : SystemsDiffer j
  pub heard : AllHeardOrCutOff j
  pub aggregators : (s : Side) → EnoughAggregators (half s j).state
  pub links : (s : Side) → EnoughLinks (half s j).state

-- From 964 rounds on, whatever was before them, both ends of each healthy cable of such a bundle distribute.
abbrev pub EachLinkComesUpBesideCutOffs : Playing → Algorithms → Type 0
EachLinkComesUpBesideCutOffs Plays gives = (n i : ℕ) (l : LinkState) (old new : WorldState) → IsBundleBesideCutOffs old
    → IsHealthyAt i l old → 964 ≤ n → Plays gives n old new → (s : Side) → AtEnd Distributes s l new

-- And in a sound world the agreement of each such cable is Same.
abbrev pub EachLinkAgreesBesideCutOffs : Playing → Algorithms → Type 0
EachLinkAgreesBesideCutOffs Plays gives = (n i : ℕ) (l : LinkState) (old new : WorldState) → IsSound old → IsBundleBesideCutOffs old
    → IsHealthyAt i l old → 964 ≤ n → Plays gives n old new → agreement_at new (suc i) ≡ Some Same
