-- Every list of events and calls of hosts keeps a world sound, so the headline holds after it.
use Rattle.laghosts.proofs.Common.{Err, List, None, Ok, Option, Result, Some, [], ap, arith, refl, subst, sym, ℕ, ◌++◌, ◌+◌, ◌∙◌, ◌∷◌, ◌≡◌, ◌≤◌}
use Rattle.laghosts.proofs.Common.{AggId, IsCabling, One, Run, Side, Two, WorldSetup, first_world, runs_joined, SystemFault, Reply, Algorithms}
use Rattle.laghosts.proofs.Common.{WorldSteps, most_events, model_world, world_setup, IsReached, IsSound, HalfState, WorldState, half, with_half}
use Rattle.laghosts.proofs.Common.{shaped_of, steps_fixed, steps_sound, below_more, AfterNumberedOffer, AfterProbe, ForcesPort, HostEvent, HostRuns}
use Rattle.laghosts.proofs.Common.{HostSteps, HostsKeepHeadline, KeepsHeadline, Leaves, Offers, Plays, Probes, Rests, Sets}
use Rattle.lagmodel.specs.World.{Event as ModelEvent}
use Rattle.lagscript.specs.declared.event.Event.{Event}
use Rattle.lagworld.proofs.Headline.{accepted, headline_of}
use Rattle.laghosts.proofs.HostHappens.{IsFollowed, force_port_followed, leave_followed, offer_followed, probe_followed, rest_followed, set_followed}
use Rattle.lagworld.proofs.Running.{carries_of}

-- no call of a host counts as an event that acted
offer_acted : (s : Side) (agg : AggId) (conv : ℕ) (octets : List ℕ) (a : Result ℕ SystemFault) (j new : WorldState)
    → AfterNumberedOffer s agg conv octets a j new → new.acted ≡ j.acted
offer_acted s agg conv octets (Ok port) j new y = ap (λ (j : WorldState). j.acted) y
offer_acted s agg conv octets (Err fault) j new y = ap (λ (j : WorldState). j.acted) y

probe_acted : (s : Side) (port : ℕ) (a : Result (Option (List ℕ)) SystemFault) (j new : WorldState) → AfterProbe s port a j new → new.acted ≡ j.acted
probe_acted s port (Ok (Some frame)) j new y = ap (λ (j : WorldState). j.acted) y
probe_acted s port (Ok None) j new y = ap (λ (j : WorldState). j.acted) y
probe_acted s port (Err fault) j new y = ap (λ (j : WorldState). j.acted) y

-- the world after it is sound, with the same configurations and cables
record Kept (old new : WorldState) : Type 0 where
  sound : IsSound new
  fixed : world_setup new ≡ world_setup old

reached_by : (events : List ModelEvent) (old new : WorldState) → world_setup new ≡ world_setup old
    → Run (world_setup old) events (model_world old) (model_world new) → IsReached old → IsReached new
reached_by events old new f h r =
    subst (λ x. (events : List ModelEvent) × Run x events (first_world x) (model_world new)) (sym f) (
      r.0 ++ events,
      runs_joined (world_setup old) r.0 events (first_world (world_setup old)) (model_world old) (model_world new) r.1 h,
    )

followed_kept : (old new : WorldState) → IsSound old → IsFollowed old new → new.acted ≡ old.acted → Kept old new
followed_kept old new i x same = let f = x.follows in record {
  sound = record {
    kept = f.shaped.kept;
    cabling = subst (λ (y : WorldSetup). IsCabling y.cables) (sym f.fixed) i.cabling;
    items = f.shaped.items;
    ends = f.shaped.ends;
    few = subst (λ n. n ≤ most_events) (sym same) i.few;
    counts = λ s. f.counts s old.acted new.acted (omega (arith, same)) (i.counts s);
    reached = reached_by x.events old new f.fixed x.run i.reached;
  };
  fixed = f.fixed;
}

step_kept : (gives : Algorithms) (e : HostEvent) (old new : WorldState) → IsSound old → new.acted ≤ most_events → HostSteps gives old e new → Kept old new
step_kept gives (Plays e) old new i few x = record {
  sound = steps_sound gives e x.0 old new i (accepted gives e x.0 old new x.1 few) x.1;
  fixed = steps_fixed gives e x.0 old new i x.1;
}
step_kept gives (Offers s agg conv octets) old new i few x = followed_kept old new i
    (offer_followed (gives s) s agg conv octets x.0 x.1 old new (shaped_of old i) i.cabling x.2 x.3 x.4)
    (offer_acted s agg conv octets x.0 (with_half s x.1 old) new x.4)
step_kept gives (Leaves s agg conv) old new i few x = followed_kept old new i
    (leave_followed (gives s) s agg conv x.0 x.1 old new (shaped_of old i) x.2 x.3) (ap (λ (j : WorldState). j.acted) x.3)
step_kept gives (Probes s port) old new i few x = followed_kept old new i
    (probe_followed (gives s) s port x.0 x.1 old new (shaped_of old i) i.cabling x.2 x.3)
    (probe_acted s port x.0 (with_half s x.1 old) new x.3)
step_kept gives (Rests s agg conv) old new i few x = followed_kept old new i
    (rest_followed (gives s) s agg conv x.0 x.1 old new (shaped_of old i) x.2 x.3) (ap (λ (j : WorldState). j.acted) x.3)
step_kept gives (ForcesPort s port) old new i few x = followed_kept old new i
    (force_port_followed (gives s) s port x.0 x.1 x.2 old new (shaped_of old i) x.3 x.4 x.5) (ap (λ (j : WorldState). j.acted) x.5)
step_kept gives (Sets s setting) old new i few x = followed_kept old new i
    (set_followed s setting x.0 x.1 old new (shaped_of old i) x.2 x.3) (ap (λ (j : WorldState). j.acted) x.3)

-- the count of events that acted does not fall
same_count : (a b : ℕ) → b ≡ a → a ≤ b
same_count a b e = omega (arith, e)

step_rises : (gives : Algorithms) (e : HostEvent) (old new : WorldState) → HostSteps gives old e new → old.acted ≤ new.acted
step_rises gives (Plays e) old new x = let more = x.1.1 in omega (arith, more)
step_rises gives (Offers s agg conv octets) old new x = same_count old.acted new.acted (offer_acted s agg conv octets x.0 (with_half s x.1 old) new x.4)
step_rises gives (Leaves s agg conv) old new x = same_count old.acted new.acted (ap (λ (j : WorldState). j.acted) x.3)
step_rises gives (Probes s port) old new x = same_count old.acted new.acted (probe_acted s port x.0 (with_half s x.1 old) new x.3)
step_rises gives (Rests s agg conv) old new x = same_count old.acted new.acted (ap (λ (j : WorldState). j.acted) x.3)
step_rises gives (ForcesPort s port) old new x = same_count old.acted new.acted (ap (λ (j : WorldState). j.acted) x.5)
step_rises gives (Sets s setting) old new x = same_count old.acted new.acted (ap (λ (j : WorldState). j.acted) x.3)

run_rises : (gives : Algorithms) (es : List HostEvent) (old new : WorldState) → HostRuns gives old es new → old.acted ≤ new.acted
run_rises gives [] old new h = same_count old.acted new.acted (ap (λ (j : WorldState). j.acted) h)
run_rises gives (e ∷ es) old new h = let first = step_rises gives e old h.0 h.1 in
    let rest = run_rises gives es h.0 new h.2 in omega (arith, first, rest)

run_kept : (gives : Algorithms) (es : List HostEvent) (old new : WorldState) → HostRuns gives old es new → IsSound old → new.acted ≤ most_events → Kept old new
run_kept gives [] old new h i few = record { sound = subst IsSound (sym h) i; fixed = ap world_setup h }
run_kept gives (e ∷ es) old new h i few = let above = run_rises gives es h.0 new h.2 in
    let one = step_kept gives e old h.0 i (omega (arith, above, few)) h.1 in
    let more = run_kept gives es h.0 new h.2 one.sound few in record { sound = more.sound; fixed = more.fixed ∙ one.fixed }

pub hosts_keep_headline : (gives : Algorithms) → HostsKeepHeadline gives
hosts_keep_headline gives es old new h i few = let k = run_kept gives es old new h i few in
    record { sound = k.sound; fixed = k.fixed; headline = headline_of new k.sound; carries = carries_of new k.sound }
