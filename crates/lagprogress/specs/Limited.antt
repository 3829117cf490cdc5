-- Which links of a bundle carry where one system has a limit of links (6.4.14; profile).
use Rattle.std.specs.Prelude.{◌≡◌, ◌≤◌, ◌⊎◌, ℕ, suc, true, false, List, Some, IsSome, slice_get}
use Rattle.lagtypes.specs.declared.identifiers.AggId.{AggId}
use Rattle.lagtypes.specs.declared.party.Choice.TheVariants.{Standby, Unselected}
use Rattle.lagmodel.specs.World.{Side, end_at, peer}
use Rattle.selection.specs.Views.{has_chosen}
use Rattle.lagsystem.specs.declared.config.Config.{Config}
use Rattle.lagsystem.specs.declared.system_ports.SystemPort.{SystemPort}
use Rattle.lagsystem.specs.State.{SystemState}
use Rattle.lagscript.specs.declared.event.Event.{Event}
use Rattle.lagworld.specs.declared.reply.Reply.{Reply}
use Rattle.lagworld.specs.declared.agreement.Agreement.TheVariants.{Same}
use Rattle.lagworld.specs.Agreement.{agreement_at}
use Rattle.lagworld.specs.Events.{Algorithms, WorldRuns}
use Rattle.lagworld.specs.Making.{AreFirst}
use Rattle.lagworld.specs.ModelWorld.{world_setup}
use Rattle.lagworld.specs.Sound.{IsSound, IsStart}
use Rattle.lagworld.specs.State.{LinkState, WorldState, half}
use Rattle.lagprogress.specs.Bundle.{AllHeard, EnoughLinks, SystemsDiffer}
use Rattle.lagprogress.specs.Rounds.{AtEnd, IsHealthyAt, Playing}
use Rattle.lagsystem.specs.StatusMeaning.{IsFull}
use Rattle.lagsystem.specs.Uses.{AllInUse}
use Rattle.lagprogress.specs.Shared.{HasAggregators}
use Rattle.lagprogress.specs.Steady.{IsSteady}

-- port `number` of system s ends a cable whose agreement is Same
pub record EndsAgreed (s : Side) (number : ℕ) (j : WorldState) : Type 0 where
  pub index : ℕ
  pub joins : end_at (world_setup j).cables s (suc index) ≡ Some number
  pub same : agreement_at j (suc index) ≡ Some Same

-- the aggregator of system s has as many members as the limit of links, and each of them ends a cable whose agreement is Same
pub record CarriesOnAll (s : Side) (agg : AggId) (j : WorldState) : Type 0 where
  pub full : IsFull (half s j).state agg
  pub members : (k : ℕ) (x : SystemPort) → slice_get (half s j).state.system_ports k ≡ Some x → has_chosen agg x.port.choice ≡ true
      → EndsAgreed s x.number j

-- the end of the cable at system s is STANDBY in such an aggregator
abbrev pub StandsByOthers : Side → LinkState → WorldState → Type 0
StandsByOthers s l j = AtEnd (λ p. (agg : AggId) × (p.choice ≡ Standby agg) × CarriesOnAll s agg j) s l j

-- no port whose link is down is SELECTED or STANDBY
abbrev pub DownAreUnselected : SystemState → Type 0
DownAreUnselected s = (k : ℕ) (x : SystemPort) → slice_get s.system_ports k ≡ Some x → x.port.enabled ≡ false → x.port.choice ≡ Unselected

-- so it is in each system with a limit of links, in each world that events lead to from a start
abbrev pub EachReachedHasDownUnselected : Algorithms → Type 0
EachReachedHasDownUnselected gives = (configs : List Config) (es : List Event) (rs : List Reply) (start new : WorldState) (s : Side)
    → IsStart start → AreFirst configs start → WorldRuns gives start es rs new → IsSome (half s new).state.max_links
    → DownAreUnselected (half s new).state

-- Both systems are steady and differ, each has aggregators, and each port whose link is up ends a healthy cable, of which
-- this holds. One system, t, may have any limit of links; no port of it whose link is down is SELECTED or STANDBY. The limit of
-- the other, if it has one, is no less than the ports of one key. Each aggregator of both is in use.
pub record IsLimitedBundle (Holds : LinkState → WorldState → Type 0) (t : Side) (j : WorldState) : Type 0 where
  pub steady : IsSteady j
  pub differ : SystemsDiffer j
  pub heard : AllHeard Holds j
  pub aggregators : (s : Side) → HasAggregators s j
  pub down : DownAreUnselected (half t j).state
  pub links : EnoughLinks (half (peer t) j).state
  pub used : AllInUse (half t j).state

-- After so many rounds or more, whatever was before them, the agreement of each healthy cable of such a bundle is Same, or its end at t
-- is STANDBY in an aggregator that has as many members as the limit, and the agreement of the cable of each is Same.
abbrev pub EachLimitedLinkAgrees : Playing → (LinkState → WorldState → Type 0) → ℕ → Algorithms → Type 0
EachLimitedLinkAgrees Plays Holds least gives = (n i : ℕ) (l : LinkState) (t : Side) (old new : WorldState) → IsSound old
    → IsLimitedBundle Holds t old → IsHealthyAt i l old → least ≤ n → Plays gives n old new
    → (agreement_at new (suc i) ≡ Some Same) ⊎ StandsByOthers t l new
