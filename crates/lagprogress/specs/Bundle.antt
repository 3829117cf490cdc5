-- What holds after so many rounds (100 ms each) of a world with any cables, and any ports and aggregators (profile).
use Rattle.std.specs.Prelude.{◌≡◌, ◌≢◌, ◌≤◌, ℕ, suc, true, List, None, Some, slice_get}
use Rattle.lagmodel.specs.World.{IsCabling, Side, One, Two}
use Rattle.portmachines.specs.Mux.{selected}
use Rattle.lagsystem.specs.declared.system_ports.SystemPort.{SystemPort}
use Rattle.lagsystem.specs.State.{SystemState}
use Rattle.lagsystem.specs.Uses.{AllInUse}
use Rattle.lagscript.specs.declared.event.Event.{Event}
use Rattle.lagscript.specs.declared.config.WorldConfig.{WorldConfig}
use Rattle.lagscript.specs.Configs.{world_refusal}
use Rattle.lagworld.specs.declared.reply.Reply.{Reply}
use Rattle.lagworld.specs.declared.agreement.Agreement.TheVariants.{Same}
use Rattle.lagworld.specs.Agreement.{agreement_at}
use Rattle.lagworld.specs.Events.{Algorithms, WorldRuns, most_events}
use Rattle.lagworld.specs.Making.{AreFirst}
use Rattle.lagworld.specs.ModelWorld.{world_setup}
use Rattle.lagworld.specs.Sound.{IsSound, IsStart}
use Rattle.lagworld.specs.State.{LinkState, WorldState, half, port_at}
use Rattle.lagsystem.specs.Sound.{NoneHeld}
use Rattle.laghosts.specs.HostEvents.{HostEvent, HostRuns}
use Rattle.lagprogress.specs.Progress.{Distributes, EndKnows}
use Rattle.lagprogress.specs.Rounds.{AtEnd, IsHealthyAt, Playing}
use Rattle.lagbeside.specs.Selecting.{aggregators_with, ports_with}
use Rattle.lagprogress.specs.Shared.{HasAggregators}
use Rattle.lagprogress.specs.Steady.{IsSteady}

-- one end of the cable is active
abbrev pub OneIsActive : LinkState → WorldState → Type 0
OneIsActive l j = (a : Side) × AtEnd (λ p. p.active ≡ true) a l j

-- both ends of the cable are active
abbrev pub BothAreActive : LinkState → WorldState → Type 0
BothAreActive l j = (s : Side) → AtEnd (λ p. p.active ≡ true) s l j

-- After so many rounds or more, whatever was before them and whatever the other cables are, each end of a healthy cable, of which this
-- holds, knows the other. No port has two cables.
abbrev pub EndsOfEachKnow : Playing → (LinkState → WorldState → Type 0) → ℕ → Algorithms → Type 0
EndsOfEachKnow Plays Holds least gives = (n i : ℕ) (l : LinkState) (old new : WorldState) → IsCabling (world_setup old).cables
    → IsSteady old → IsHealthyAt i l old → Holds l old → least ≤ n → Plays gives n old new → (s : Side) → EndKnows s l new

-- port `number` of system s ends a healthy cable, of which this holds
pub record EndsHealthyCable (Holds : LinkState → WorldState → Type 0) (s : Side) (number : ℕ) (j : WorldState) : Type 0 where
  pub index : ℕ
  pub link : LinkState
  pub healthy : IsHealthyAt index link j
  pub joins : port_at s link ≡ number
  pub holds : Holds link j

-- each port whose link is up ends a healthy cable, of which this holds
abbrev pub AllHeard : (LinkState → WorldState → Type 0) → WorldState → Type 0
AllHeard Holds j = (s : Side) (k : ℕ) (x : SystemPort) → slice_get (half s j).state.system_ports k ≡ Some x → x.port.enabled ≡ true
    → EndsHealthyCable Holds s x.number j

-- the two systems are not the same
abbrev pub SystemsDiffer : WorldState → Type 0
SystemsDiffer j = (half One j).state.system ≢ (half Two j).state.system

-- at least as many aggregators have the key of a port whose link is up as ports have it, whether their links are up or not
abbrev pub EnoughAggregators : SystemState → Type 0
EnoughAggregators s = (k : ℕ) (x : SystemPort) → slice_get s.system_ports k ≡ Some x → x.port.enabled ≡ true
    → ports_with x.port.party.key s ≤ aggregators_with x.port.party.key s

-- if there is a limit of links, no more ports than that have the key of a port; and each aggregator is in use
abbrev pub EnoughLinks : SystemState → Type 0
EnoughLinks s =
    ((k most : ℕ) (x : SystemPort) → slice_get s.system_ports k ≡ Some x → s.max_links ≡ Some most → ports_with x.port.party.key s ≤ most)
    × AllInUse s

-- The world is steady; its two systems differ, and each has aggregators and enough links; no port has two cables, and each port
-- whose link is up ends a healthy cable, of which this holds. Other cables may be cut, have a limit, or end at ports whose links
-- are down.
pub record IsBundle (Holds : LinkState → WorldState → Type 0) (j : WorldState) : Type 0 where
  pub steady : IsSteady j
  pub cabling : IsCabling (world_setup j).cables
  pub differ : SystemsDiffer j
  pub heard : AllHeard Holds j
  pub aggregators : (s : Side) → HasAggregators s j
  pub links : (s : Side) → EnoughLinks (half s j).state

-- After so many rounds or more, whatever was before them, both ends of each healthy cable of a bundle distribute.
abbrev pub EachLinkComesUp : Playing → (LinkState → WorldState → Type 0) → ℕ → Algorithms → Type 0
EachLinkComesUp Plays Holds least gives = (n i : ℕ) (l : LinkState) (old new : WorldState) → IsBundle Holds old → IsHealthyAt i l old
    → least ≤ n → Plays gives n old new → (s : Side) → AtEnd Distributes s l new

-- And in a sound world the agreement of each such cable is Same, after as many.
abbrev pub EachLinkAgrees : Playing → (LinkState → WorldState → Type 0) → ℕ → Algorithms → Type 0
EachLinkAgrees Plays Holds least gives = (n i : ℕ) (l : LinkState) (old new : WorldState) → IsSound old → IsBundle Holds old
    → IsHealthyAt i l old → least ≤ n → Plays gives n old new → agreement_at new (suc i) ≡ Some Same

-- The systems differ of each world that events lead to from one that was made.
abbrev pub ReachedIsApart : Algorithms → Type 0
ReachedIsApart gives = (config : WorldConfig) (es : List Event) (rs : List Reply) (start new : WorldState)
    → world_refusal config ≡ None → AreFirst config.systems start → WorldRuns gives start es rs new → SystemsDiffer new

-- A world that events lead to from one that was made is sound, and a bundle, if each port whose link is up ends a healthy
-- cable, of which this holds, and each system has aggregators and enough links.
abbrev pub ReachedIsBundle : (LinkState → WorldState → Type 0) → Algorithms → Type 0
ReachedIsBundle Holds gives = (config : WorldConfig) (es : List Event) (rs : List Reply) (start new : WorldState)
    → world_refusal config ≡ None → IsStart start → AreFirst config.systems start → WorldRuns gives start es rs new
    → new.acted ≤ most_events → AllHeard Holds new → ((s : Side) → HasAggregators s new)
    → ((s : Side) → EnoughLinks (half s new).state) → IsSound new × IsBundle Holds new

-- So is each world that events, calls and settings of hosts lead to, if the hosts hold no port in the end.
abbrev pub HostReachedIsBundle : (LinkState → WorldState → Type 0) → Algorithms → Type 0
HostReachedIsBundle Holds gives = (config : WorldConfig) (es : List HostEvent) (start new : WorldState) → world_refusal config ≡ None
    → IsStart start → AreFirst config.systems start → HostRuns gives start es new → new.acted ≤ most_events
    → ((s : Side) → NoneHeld (half s new).state) → AllHeard Holds new → ((s : Side) → HasAggregators s new)
    → ((s : Side) → EnoughLinks (half s new).state) → IsSound new × IsBundle Holds new

-- However few aggregators and links there are: if each port whose link is up ends a healthy cable, of which this holds, and both ends
-- of a cable are SELECTED after so many rounds or more, both distribute.
abbrev pub SelectedPairsComeUp : Playing → (LinkState → WorldState → Type 0) → ℕ → Algorithms → Type 0
SelectedPairsComeUp Plays Holds least gives = (n i : ℕ) (l : LinkState) (old new : WorldState) → IsCabling (world_setup old).cables
    → IsSteady old → AllHeard Holds old → IsHealthyAt i l old → least ≤ n → Plays gives n old new
    → ((s : Side) → AtEnd (λ p. selected p ≡ true) s l new) → (s : Side) → AtEnd Distributes s l new

-- And in a sound world the agreement of that cable is Same, after as many.
abbrev pub SelectedPairsAgree : Playing → (LinkState → WorldState → Type 0) → ℕ → Algorithms → Type 0
SelectedPairsAgree Plays Holds least gives = (n i : ℕ) (l : LinkState) (old new : WorldState) → IsSound old → IsSteady old
    → AllHeard Holds old → IsHealthyAt i l old → least ≤ n → Plays gives n old new
    → ((s : Side) → AtEnd (λ p. selected p ≡ true) s l new) → agreement_at new (suc i) ≡ Some Same
