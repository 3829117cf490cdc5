-- A world that events lead to from one that was made is a bundle, if its links are up as it wants them.
use Rattle.lagprogress.proofs.Common.{Bool, List, None, Option, Some, [], ap, arith, false, if◌then◌else◌, map, refl, subst, sym, ℕ, ◌++◌, ◌+◌, ◌-◌}
use Rattle.lagprogress.proofs.Common.{◌∙◌, ◌∷◌, ◌≡◌, ◌≤◌, nat_tests, SystemId, system-itself, One, Side, Two, WorldSetup, Config, config_value}
use Rattle.lagprogress.proofs.Common.{or_first, Event, Reply, Algorithms, WorldRuns, most_events, AreFirst, IsStart, LinkState, WorldState, half}
use Rattle.lagprogress.proofs.Common.{start_sound, hosts_keep_headline, no, EachLinkAgrees, EachLinkComesUp, HostReachedIsBundle, IsBundle}
use Rattle.lagprogress.proofs.Common.{ReachedIsApart, ReachedIsBundle, SystemsDiffer, CarriersAreUp, NothingIsHeld, DrainingRounds}
use Rattle.lagprogress.proofs.Common.{NothingIsHeldByHosts, HostRounds, LateRounds, EachAgrees, EachDistributes, IsReached, IsReady, LeadsTo}
use Rattle.lagprogress.proofs.Common.{NothingStaysHeld, Rounds, IsSteady, IsSteadySystem}
use Rattle.lagworld.specs.Sound.{IsSound}
use Rattle.lagprogress.proofs.Linked.{events_each}
use Rattle.lagworld.proofs.Headline.{accepted, rises}
use Rattle.lagworld.proofs.Keeping.{steps_sound}
use Rattle.lagprogress.proofs.Halves.{call_steady, start_steady}
use Rattle.lagprogress.proofs.Looping.{RunsEvents}
use Rattle.cables.specs.declared.item.Item.{Item}
use Rattle.lagscript.specs.Configs.{refusal_of_all}
use Rattle.lagprogress.proofs.LateLoops.{host_rounds_are_late_rounds}
use Rattle.lagprogress.proofs.Freeing.{draining_splits}
use Rattle.lagprogress.proofs.Carrying.{host_reached_has_carriers_up}
use Rattle.lagprogress.proofs.Quieting.{events_keep}
use Rattle.lagprogress.proofs.HostSteady.{host_reached_steady}
use Rattle.lagprogress.proofs.HostLoops.{draining_are_host, events_are_of_hosts}
use Rattle.lagprogress.proofs.Played.{runs_append}

-- What holds of each world that events lead to.

pub runs_steady : (gives : Algorithms) (es : List Event) (rs : List Reply) (old new : WorldState) → WorldRuns gives old es rs new → IsSteady old → IsSteady new
runs_steady gives es rs old new h k s = events_each gives s IsSteadySystem (call_steady (gives s)) es rs old new h (k s)

runs_sound : (gives : Algorithms) (es : List Event) (rs : List Reply) (old new : WorldState) → WorldRuns gives old es rs new
    → new.acted ≤ most_events → IsSound old → IsSound new
runs_sound gives [] [] old new h few i = subst IsSound (sym h) i
runs_sound gives (e ∷ es) (r ∷ rs) old new h few i = let above = rises gives es rs h.0 new h.2 in
    runs_sound gives es rs h.0 new h.2 few
    (steps_sound gives e r old h.0 i (accepted gives e r old h.0 h.1 (omega (arith, above, few))) h.1)
runs_sound gives es rs old new h few i = absurd h

pub reached_steady : (gives : Algorithms) (configs : List Config) (es : List Event) (rs : List Reply) (start new : WorldState)
    → IsStart start → AreFirst configs start → WorldRuns gives start es rs new → new.acted ≤ most_events → IsSound new × IsSteady new
reached_steady gives configs es rs start new i first h few =
    (runs_sound gives es rs start new h few (start_sound start i), runs_steady gives es rs start new h (start_steady configs start i first))

first_none : {X : Type 0} (a b : Option X) → or_first a b ≡ None → (a ≡ None) × (b ≡ None)
first_none a b e = grind (arith, nat_tests)

when_none : {X : Type 0} (b : Bool) (x : X) → (if b then Some x else None) ≡ None → b ≡ false
when_none b x e = grind (arith, nat_tests)

start_differs : (configs : List Config) (cables : List (ℕ × ℕ)) (j : WorldState) → refusal_of_all (map config_value configs) cables ≡ None
    → AreFirst configs j → SystemsDiffer j
start_differs configs cables j hyp1 hyp2 = grind (arith, nat_tests, false, when_none, first_none, no, system-itself)

pub reached_apart : (gives : Algorithms) → ReachedIsApart gives
reached_apart gives config es rs start new accepted first runs =
    let fixed : (s : Side) → (half s new).state.system ≡ (half s start).state.system =
    events_keep SystemId (λ t. t.system) (λ t a b. refl) gives es rs start new runs in
    λ same. start_differs config.systems config.cables.items start accepted first (sym (fixed One) ∙ (same ∙ fixed Two))

pub reached_is_bundle : (Holds : LinkState → WorldState → Type 0) (gives : Algorithms) → ReachedIsBundle Holds gives
reached_is_bundle Holds gives config es rs start new accepted i first runs few heard aggregators links =
    let both = reached_steady gives config.systems es rs start new i first runs few in (
      both.0,
      record {
        steady = both.1;
        cabling = both.0.cabling;
        differ = reached_apart gives config es rs start new accepted first runs;
        heard = heard;
        aggregators = aggregators;
        links = links;
      },
    )

-- and where hosts make any calls and settings
pub host_reached_is_bundle : (Holds : LinkState → WorldState → Type 0) (gives : Algorithms) → HostReachedIsBundle Holds gives
host_reached_is_bundle Holds gives config es start new accepted i first runs few free heard aggregators links =
    let both = host_reached_steady gives config.systems es start new i first runs few free in
    let fixed = (hosts_keep_headline gives es start new runs (start_sound start i) few).fixed in
    let same : (s : Side) → (half s new).state.system ≡ (half s start).state.system = λ s. ap (λ (x : WorldSetup). (x.setup s).system) fixed in (
      both.0,
      record {
        steady = both.1;
        cabling = both.0.cabling;
        differ = λ e. start_differs config.systems config.cables.items start accepted first (sym (same One) ∙ (e ∙ same Two));
        heard = heard;
        aggregators = aggregators;
        links = links;
      },
    )

reached_carriers : (gives : Algorithms) (configs : List Config) (es : List Event) (rs : List Reply) (start new : WorldState) → IsStart start
    → AreFirst configs start → WorldRuns gives start es rs new → (s : Side) → CarriersAreUp (half s new).state
reached_carriers gives configs es rs start new i h runs = grind (arith, nat_tests, host_reached_has_carriers_up, map, events_are_of_hosts)

-- as the contract of `World::new` says it
module _ {C : Type 0} (items : C → List Item) (limit : C → Option ℕ) where
  is_bundle : (Holds : LinkState → WorldState → Type 0) (gives : Algorithms) (j : WorldState) → IsReached items limit gives j → IsReady Holds j
      → IsSound j × IsBundle Holds j
  is_bundle Holds gives j r ready = reached_is_bundle Holds gives r.config r.events r.replies r.start j (first_none _ _ r.accepted).0 r.starts
      r.made.systems r.runs r.few ready.heard ready.aggregators ready.links

  carriers : (gives : Algorithms) (j : WorldState) → IsReached items limit gives j → (s : Side) → CarriersAreUp (half s j).state
  carriers gives j r = reached_carriers gives r.config.systems r.events r.replies r.start j r.starts r.made.systems r.runs

  -- in healthy rounds of hosts

  pub distribute : (Holds : LinkState → WorldState → Type 0) (least : ℕ) (gives : Algorithms) → EachLinkComesUp LateRounds Holds least gives
      → (n : ℕ) (old new : WorldState) → (IsSteady old → HostRounds gives n old new) → LeadsTo items limit EachDistributes Holds least gives n old new
  distribute Holds least gives by n old new h r ready enough i l healthy = let b = (is_bundle Holds gives old r ready).1 in
      by n i l old new b healthy enough (host_rounds_are_late_rounds gives n old new b.cabling (h b.steady))

  pub agree : (Holds : LinkState → WorldState → Type 0) (least : ℕ) (gives : Algorithms) → EachLinkAgrees LateRounds Holds least gives
      → (n : ℕ) (old new : WorldState) → (IsSteady old → HostRounds gives n old new) → LeadsTo items limit EachAgrees Holds least gives n old new
  agree Holds least gives by n old new h r ready enough i l healthy = let both = is_bundle Holds gives old r ready in
      by n i l old new both.0 both.1 healthy enough (host_rounds_are_late_rounds gives n old new both.1.cabling (h both.1.steady))

  -- that ask until nothing is due

  carriers_later : (gives : Algorithms) (old new : WorldState) → IsReached items limit gives old → RunsEvents gives old new → (s : Side)
      → CarriersAreUp (half s new).state
  carriers_later gives old new r (es, run) = reached_carriers gives r.config.systems (r.events ++ es) (r.replies ++ run.replies) r.start
      new r.starts r.made.systems (runs_append gives r.events es r.replies run.replies r.start old new r.runs run.acts)

  pub free_by_hosts : (Holds : LinkState → WorldState → Type 0) (least : ℕ) (gives : Algorithms) → NothingIsHeldByHosts Holds least gives
      → (n : ℕ) (old new : WorldState) → RunsEvents gives old new → (IsSteady old → (s : Side) (g k : ℕ) → DrainingRounds s g k gives n old new)
      → LeadsTo items limit NothingStaysHeld Holds (least + 30) gives n old new
  free_by_hosts Holds least gives by n old new run h r ready enough s left g k = let b = (is_bundle Holds gives old r ready).1 in
      let all = h b.steady s g k in
      let cut = draining_splits gives s g k 30 (n - 30) n old new (omega (arith, enough)) all in
      by (n - 30) 30 old cut.0 new s g k b (omega (arith, enough))
      (host_rounds_are_late_rounds gives (n - 30) old cut.0 b.cabling (draining_are_host gives s g k (n - 30) old cut.0 cut.1)) (omega arith) cut.2
      left (carriers_later gives old new r run s)

  -- and in healthy rounds

  pub free : (Holds : LinkState → WorldState → Type 0) (least : ℕ) (gives : Algorithms) → NothingIsHeld Holds least gives
      → (n : ℕ) (old new : WorldState) → Rounds gives n old new → LeadsTo items limit NothingStaysHeld Holds least gives n old new
  free Holds least gives by n old new h r ready enough s left =
      by n old new s (is_bundle Holds gives old r ready).1 (carriers gives old r s) enough h left
