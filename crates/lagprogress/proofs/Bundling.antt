-- How the links of a bundle come up and agree.
use Rattle.lagsystem.specs.StatusMeaning.{IsFull}
use Rattle.lagbeside.proofs.Hearing.{no}
use Rattle.lagprogress.proofs.Common.{Bool, IsSome, List, None, Option, Some, [], ap, arith, inl, inr, is_some, length, map, refl, slice_get, subst}
use Rattle.lagprogress.proofs.Common.{suc, sym, true, ℕ, ◌+◌, ◌-◌, ◌==◌, ◌∙◌, ◌∷◌, ◌≡◌, ◌≢◌, ◌≤◌, ◌⊎◌, cases_Bool, nat_tests, same_Some}
use Rattle.lagprogress.proofs.Common.{AllByRecursion, AggId, Key, Choice, Standby, is_selected, itself, Lacpdu, IsCabling, One, Side, Two, end_at}
use Rattle.lagprogress.proofs.Common.{peer, Machines, receive_rows, RunsToRest, count_down, ports_that_chose, has_chosen, SystemPort, MuxIsSettled}
use Rattle.lagprogress.proofs.Common.{occupied, IsSound, SystemState, views, all-get, found_place, Same, agreement_at, Algorithms, link_ends}
use Rattle.lagprogress.proofs.Common.{world_setup, IsWorldSound, LinkState, WorldState, half, history_at, port_at, towards, end_is, HostEvent}
use Rattle.lagprogress.proofs.Common.{ports_with, IsTimed, count, count_more_of, counted, OfEach, AtPort, waits_for_room, LeavesPorts, RoundsBeside}
use Rattle.lagprogress.proofs.Common.{AllHeard, BothAreActive, EachLinkAgrees, EachLinkComesUp, EndsHealthyCable, EndsOfEachKnow, EnoughLinks}
use Rattle.lagprogress.proofs.Common.{IsBundle, OneIsActive, SystemsDiffer, Clearing, IsBetweenTicks, PlayedRounds, LateRounds, OldArrive}
use Rattle.lagprogress.proofs.Common.{Distributes, AtEnd, IsHealthyAt, Playing, IsTickedRound, TickedRounds, TicksAmong, most_ticks, IsSteady}
use Rattle.lagprogress.proofs.SeveralTicks.{rounds_on, rounds_beside, rounds_once, no_less, turned, holds_turns}
use Rattle.lagprogress.proofs.LateHearing.{counts_of, kept_of}
use Rattle.lagprogress.proofs.ComingUp.{AreSynced, agrees_now, distributes, climbed_end, climbs, stands_on, keeps_agreeing, CableStands, Going}
use Rattle.lagprogress.proofs.ComingUp.{agreed_synced, slack_of, AgreesIn, comes_to_agree, rounds_pass}
use Rattle.lagprogress.proofs.EachRound.{clears_less, EachAt, RoundKeeps, same_index, played_split, each_between, tick_makes, tick_beside, steady_on}
use Rattle.lagprogress.proofs.EachRound.{Passes}
use Rattle.lagprogress.proofs.Knowing.{AtIt, knows_in, met_knows, for_several}
use Rattle.lagprogress.proofs.LateMeeting.{late_active_meet, late_one_meets}
use Rattle.lagprogress.proofs.Climbing.{Down, Ripe, Rising, down_settles, down_takes, down_ticks, rising_first}
use Rattle.lagprogress.proofs.Lasting.{active_at, awake_at, named_at, healthy_cable, said_by, starts, IsAsBefore, all_by_place, ends_at, old_port}
use Rattle.lagprogress.proofs.Lasting.{own_system, still_links, before_on}
use Rattle.lagprogress.proofs.Halves.{timely}
use Rattle.lagprogress.proofs.EndFacts.{Synced, activity}
use Rattle.lagprogress.proofs.Linked.{at_end, end_here, EndPort}
use Rattle.lagprogress.proofs.OneRound.{Nothing}
use Rattle.lagprogress.proofs.SharedLemmas.{Finds, shared_finds, lasts_on}
use Rattle.lagprogress.proofs.Claims.{IsNamed}

-- no port stands by

members_counted : (agg : AggId) (ports : List SystemPort)
    → length (ports_that_chose agg (views ports)) ≡ count (λ (y : SystemPort). has_chosen agg y.port.choice) ports
members_counted agg [] = refl
members_counted agg (y ∷ ys) = grind (arith, nat_tests, members_counted agg ys)

chose_occupies : (agg : AggId) (c : Choice) → has_chosen agg c ≡ true → occupied c ≡ Some agg.0
chose_occupies agg c h = grind (arith, nat_tests)

pub never_stands : (s : SystemState) (i : ℕ) (x : SystemPort) (agg : AggId) → IsSound s → EnoughLinks s → slice_get s.system_ports i ≡ Some x
    → x.port.choice ≡ Standby agg → ⊥
never_stands s i x agg h enough there stands = let full : IsFull s agg = elim (waits_for_room s i x agg h there stands) [
  | inl unused ↦ absurd (no (sym unused ∙ enough.1 agg))
  | inr f ↦ f
] in
    let key = x.port.party.key in
    let one : SystemPort → Bool = λ y. has_chosen agg y.port.choice in
    let other : SystemPort → Bool = λ y. y.port.party.key.0 == key.0 in
    let its = h.occupants.key i agg.0 x there (ap occupied stands) in
    let more : count one s.system_ports + 1 ≤ count other s.system_ports = count_more_of one other s.system_ports
    (λ j y e c. (let same : y.port.party.key ≡ key = same_Some y.port.party.key key
    (sym (h.occupants.key j agg.0 y e (chose_occupies agg y.port.choice c)) ∙ its) in
    ap (λ (q : Key). q.0 == key.0) same ∙ itself key.0)) i x there (ap (has_chosen agg) stands) (itself key.0) in
    let most : ports_with key s ≤ full.0 = enough.0 i full.0 x there full.1 in
    let members : count one s.system_ports ≡ full.0 = sym (members_counted agg s.system_ports) ∙ full.2 in
    let ports : ports_with key s ≡ count other s.system_ports = counted other s.system_ports in
    too_many (ports_with key s) (count one s.system_ports) (count other s.system_ports) full.0 more most members ports
  where
    too_many : (p m o f : ℕ) → m + 1 ≤ o → p ≤ f → m ≡ f → p ≡ o → ⊥
    too_many p m o f a b c d = omega (arith, a, b, c, d)

-- a port that knows its partner is SELECTED

pub is_chosen : (at : Side → ℕ) (w : Side → Lacpdu) (c : Side → ℕ) (s : Side) (j : WorldState) → IsSteady j → Finds s j → EnoughLinks (half s j).state
    → ((w (peer s)).actor.system ≢ (w s).actor.system) → 1 ≤ c s → (e : EndPort at w 1 c s j) → is_selected e.port.port.choice ≡ true
is_chosen at w c s j hyp1 hyp2 hyp3 hyp4 hyp5 e = grind (arith, nat_tests, never_stands)

-- ports whose links are down

down_keeps : (t : ℕ) → RoundKeeps (Down t)
down_keeps t = record { settles = down_settles t; sends = λ n p a e. a e; takes = λ n v p q h a. down_takes t n v p q h a }

down_first : (s : SystemState) → IsSound s → AllByRecursion (λ (x : SystemPort). IsTimed x.port) s.system_ports → EnoughLinks s
    → OfEach (Down 20) s.system_ports
down_first s h timed enough = all_by_place (λ x. Down 20 x.number x.port) s.system_ports
    (λ k x there e. (
      λ agg stands. never_stands s k x agg h enough there stands,
      λ chosen. (rising_first x.port (all-get (MuxIsSettled s.keys s.system_ports) s.system_ports k x there h.quiet.0).mux
          (all-get (λ (y : SystemPort). IsTimed y.port) s.system_ports k x there timed) chosen).1,
    ))

-- What events and ticks keep of ports, rounds do, by the ticks that were.

turns_of : (s : Side) (n : ℕ) (es : List HostEvent) → TicksAmong IsBetweenTicks n One 0 0 es → TicksAmong IsBetweenTicks n s 0 0 es
turns_of One n es h = h
turns_of Two n es h = turned IsBetweenTicks n es 0 0 h

abbrev Sinks : (ℕ → ℕ → Machines → Type 0) → Side → ℕ → WorldState → Type 0
Sinks D s n j = (ticks : ℕ) × (n ≤ ticks) × EachAt (D (20 - ticks)) s j

pub sinks_in : (D : ℕ → ℕ → Machines → Type 0) → ((t : ℕ) → RoundKeeps (D t))
    → ((t n : ℕ) (p q : Machines) → RunsToRest receive_rows (count_down p) q → D t n p → D (t - 1) n q) → (most : ℕ) (gives : Algorithms)
    (s : Side) (old new : WorldState) → TickedRounds IsBetweenTicks most gives 20 old new → EachAt (D 20) s old → EachAt (D 0) s new
sinks_in D keeps ticked most gives s old new h a =
    let r = rounds_on IsBetweenTicks most gives (Sinks D s) old (0, omega arith, a) sinks 20 new h in
    let l = r.1 in subst (λ t. EachAt (D t) s new) (omega (arith, l)) r.2
  where
    sinks : (m : ℕ) (i j : WorldState) → IsTickedRound IsBetweenTicks most gives i j → Sinks D s m i → Sinks D s (m + 1) j
    sinks m i j (k, some, less, q) (t, few, b) = (
      t + k,
      omega (arith, few, some),
      subst (λ x. EachAt (D x) s j) (omega arith) (holds_turns IsBetweenTicks gives k s (λ x y z. EachAt (D (20 - t - x)) s z)
          (λ x y l. each_between (D (20 - t - x)) (keeps (20 - t - x)) s gives)
          (λ x y l. tick_makes (D (20 - t - x)) (D (20 - t - suc x)) (keeps (20 - t - suc x)).settles
          (λ n p r run d. subst (λ z. D z n r) (omega arith) (ticked (20 - t - x) n p r run d)) s gives)
          (λ x y l. tick_beside (D (20 - t - x)) s gives) q.events q.replies i j 0 0 (turns_of s k q.events q.turns) q.acts
          (subst (λ z. EachAt (D z) s i) (sym (no_less (20 - t))) b)),
    )

-- a bundle

-- of each healthy cable it holds, since no port has two cables
pub holds_there : (Holds : LinkState → WorldState → Type 0) (old : WorldState) → IsCabling (world_setup old).cables → (i : ℕ) (l : LinkState)
    → (h : IsHealthyAt i l old) → EndsHealthyCable Holds One (ends_at i l old h One).1.number old → Holds l old
holds_there Holds old cabling i l h it = let e = ends_at i l old h One in
    let joins : port_at One it.link ≡ port_at One l = it.joins ∙ found_place (port_at One l) (half One old).state.system_ports e.0 e.1 e.2 e.3 in
    let here : end_at (map link_ends old.links) One (suc it.index) ≡ Some (port_at One l) =
    end_is One old.links it.index it.link it.healthy.there ∙ ap (λ (n : ℕ). Some n) joins in
    let place : suc it.index ≡ suc i = cabling One (suc it.index) (suc i) (port_at One l) here (end_is One old.links i l h.there) in
    grind (arith, nat_tests, same_Some, slice_get)

pub heard_holds : (Holds : LinkState → WorldState → Type 0) (old : WorldState) → IsCabling (world_setup old).cables → AllHeard Holds old
    → (i : ℕ) (l : LinkState) → IsHealthyAt i l old → Holds l old
heard_holds Holds old cabling heard i l h =
    let e = ends_at i l old h One in holds_there Holds old cabling i l h (heard One e.0 e.1 e.3 e.4)

-- what the ends of a healthy cable say of themselves
abbrev pub said : (old : WorldState) (i : ℕ) (l : LinkState) → IsHealthyAt i l old → Side → Lacpdu
said old i l h = said_by l old (ends_at i l old h)

-- one of them is active, for each end
abbrev pub Awake : (old : WorldState) (i : ℕ) (l : LinkState) → IsHealthyAt i l old → Type 0
Awake old i l h = (s : Side) → (activity (said old i l h s) ≡ true) ⊎ (activity (said old i l h (peer s)) ≡ true)

-- each end names itself otherwise than the default partner
abbrev pub Named : (old : WorldState) (i : ℕ) (l : LinkState) → IsHealthyAt i l old → Type 0
Named old i l h = (t : Side) → IsNamed (said old i l h t)

pub names : (old : WorldState) → IsSteady old → (i : ℕ) (l : LinkState) (h : IsHealthyAt i l old) → Named old i l h
names old steady i l h = named_at l old (ends_at i l old h) steady

-- both know each other, with the change counts that LACPDUs bear since this world, in rounds of so many ticks at the most
abbrev pub KnowsSince : ℕ → (Side → ℕ) → (Side → Lacpdu) → WorldState → WorldState → Type 0
KnowsSince ticks at w old j = Going at w (counts_of at old) (kept_of at old) ticks 1 12 0 j

-- They are late rounds of so many ticks at the most. What is agreed in them lasts in rounds of several ticks.
pub record IsLateKind (R : ℕ → WorldState → WorldState → Type 0) (ticks : ℕ) (gives : Algorithms) : Type 0 where
  pub one : 1 ≤ ticks
  pub small : ticks ≤ most_ticks
  pub split : (k m n : ℕ) (old new : WorldState) → n ≡ k + m → R n old new → (mid : WorldState) × R m old mid × R k mid new
  pub are : (n : ℕ) (old new : WorldState) → R n old new → TickedRounds IsBetweenTicks ticks gives n old new
  pub lasts : (at : Side → ℕ) (w : Side → Lacpdu) (counts : Side → ℕ) (kept : Side → Bool) (j : WorldState) → AgreesIn at w counts kept ticks j
      → AgreesIn at w counts kept most_ticks j

pub once_kind : (E : Clearing) → ((events : List HostEvent) (i j : WorldState) → E events i j → OldArrive events i j) → (gives : Algorithms)
    → IsLateKind (PlayedRounds E gives) 1 gives
once_kind E late gives = record {
  one = omega arith;
  small = omega arith;
  split = λ k m n old new e h. played_split E gives k m n old new e h;
  are = λ n old new h. rounds_once IsBetweenTicks 1 gives (omega arith) n old new (clears_less E OldArrive late gives n old new h);
  lasts = λ at w counts kept j c. record { fresh = for_several at w counts kept most_ticks 2 j (omega arith) (omega arith) c.fresh; heard = c.heard };
}

pub passed : {R : ℕ → WorldState → WorldState → Type 0} {ticks : ℕ} {gives : Algorithms} → IsLateKind R ticks gives → (n : ℕ) (old new : WorldState)
    → R n old new → Passes gives old new
passed {R} {ticks} {gives} kind n old new h = rounds_pass ticks gives n old new (kind.are n old new h)

-- the ends of each healthy cable, of which this holds, know each other after so many rounds of a kind, and one of them is active
pub record LinksMeetBy (Plays : Playing) (ticks : ℕ) (Holds : LinkState → WorldState → Type 0) (first : ℕ) (gives : Algorithms) : Type 0 where
  pub kind : IsLateKind (Plays gives) ticks gives
  pub meet : (n : ℕ) (old mid : WorldState) → IsCabling (world_setup old).cables → IsSteady old → (i : ℕ) (l : LinkState) (h : IsHealthyAt i l old)
      → Holds l old → first ≤ n → Plays gives n old mid → KnowsSince ticks (λ s. port_at s l) (said old i l h) old mid
  pub wake : (old : WorldState) (i : ℕ) (l : LinkState) (h : IsHealthyAt i l old) → Holds l old → Awake old i l h

-- so in late rounds
abbrev pub LinksMeet : (LinkState → WorldState → Type 0) → ℕ → Algorithms → Type 0
LinksMeet Holds first gives = LinksMeetBy LateRounds 1 Holds first gives

pub one_meets : (gives : Algorithms) → LinksMeet OneIsActive 624 gives
one_meets gives = record {
  kind = once_kind OldArrive (λ events i j clears. clears) gives;
  meet = λ n old mid cabling steady i l h a enough r. late_one_meets gives (λ s. port_at s l) (said old i l h) (names old steady i l h) n old mid
      (starts i l old (ends_at i l old h) steady cabling h) r a.0 (active_at l old (ends_at i l old h) a.0 a.1) enough;
  wake = λ old i l h a. awake_at (said old i l h) a.0 (active_at l old (ends_at i l old h) a.0 a.1);
}

pub both_meet : (gives : Algorithms) → LinksMeet BothAreActive 323 gives
both_meet gives = record {
  kind = once_kind OldArrive (λ events i j clears. clears) gives;
  meet = λ n old mid cabling steady i l h a enough r. late_active_meet gives (λ s. port_at s l) (said old i l h) (names old steady i l h) n old mid
      (starts i l old (ends_at i l old h) steady cabling h) r (λ s. active_at l old (ends_at i l old h) s (a s)) enough;
  wake = λ old i l h a s. inl (active_at l old (ends_at i l old h) s (a s));
}

-- the ends of a healthy cable are of different systems
pub apart_ends : (old : WorldState) → IsSteady old → SystemsDiffer old → (i : ℕ) (l : LinkState) (h : IsHealthyAt i l old) → (s : Side)
    → (said old i l h (peer s)).actor.system ≢ (said old i l h s).actor.system
apart_ends old hyp1 hyp2 i l h s = grind (arith, nat_tests, ends_at, own_system)

-- ends that are up agree, where the cables stand where they stood and the ports have a history as before
pub agree_still : (i : ℕ) (l : LinkState) (old new : WorldState) → IsWorldSound old → CableStands (λ s. port_at s l) old new
    → (h : IsHealthyAt i l old) → AreSynced (λ s. port_at s l) (said old i l h) new → agreement_at new (suc i) ≡ Some Same
agree_still i l old new sound stands h up = agrees_now (λ s. port_at s l) (said old i l h) new up i
    (λ x fl c. same_index i x l fl old new h.there stands.0 c)
    (λ s. stands.1.there s ∙ some_is (history_at (half s old).histories (port_at s l)) (sound.ends s i l h.there))
  where
    some_is : {X : Type 0} (o : Option X) → IsSome o → is_some o ≡ true
    some_is None h = absurd (let e = h in cc)
    some_is (Some x) h = refl

-- as they do in rounds
pub stands_in : (most : ℕ) (gives : Algorithms) (n i : ℕ) (l : LinkState) (old new : WorldState) → IsCabling (world_setup old).cables
    → IsHealthyAt i l old → TickedRounds IsBetweenTicks most gives n old new → CableStands (λ s. port_at s l) old new
stands_in most gives n i l old new cabling h rounds = let at : Side → ℕ = λ t. port_at t l in
    stands_on at most gives n old old new (
      refl,
      record {
        flying = λ t. towards t l;
        index = i;
        links = healthy_cable i l old cabling h;
        counts = λ t. refl;
        there = λ t. refl;
        items = λ b. absurd (omega (arith, b));
      },
    ) (rounds_beside at most gives n old new rounds)

-- A bundle, by late rounds of a kind, but that a port whose link is up may be another in place of an end of a healthy cable. In so many
-- rounds the ends of each healthy cable know each other, and one of them is active; the others end none, and have risen in 20 rounds more if
-- they are SELECTED.
pub record MeetsBy (R : ℕ → WorldState → WorldState → Type 0) (ticks : ℕ) (Holds : LinkState → WorldState → Type 0) (Other : Side → ℕ → Type 0)
    (first : ℕ) (gives : Algorithms) (old : WorldState) : Type 0 where
  pub steady : IsSteady old
  pub cabling : IsCabling (world_setup old).cables
  pub differ : SystemsDiffer old
  pub heard : (s : Side) (k : ℕ) (x : SystemPort) → slice_get (half s old).state.system_ports k ≡ Some x → x.port.enabled ≡ true
      → EndsHealthyCable Holds s x.number old ⊎ Other s x.number
  pub kind : IsLateKind R ticks gives
  pub finds : (mid : WorldState) → R first old mid → (s : Side) → Finds s mid
  pub links : (s : Side) → EnoughLinks (half s old).state
  pub never : (s : Side) (i : ℕ) (l : LinkState) → IsHealthyAt i l old → Other s (port_at s l) → ⊥
  pub idle : (mid top : WorldState) → R first old mid → R 20 mid top → (s : Side) (k : ℕ) (z y : SystemPort)
      → slice_get (half s old).state.system_ports k ≡ Some z → z.port.enabled ≡ true → Other s z.number
      → slice_get (half s top).state.system_ports k ≡ Some y → Ripe 0 y.port
  pub meets : (i : ℕ) (l : LinkState) (h : IsHealthyAt i l old) → Holds l old → (mid : WorldState) → R first old mid
      → KnowsSince ticks (λ s. port_at s l) (said old i l h) old mid
  pub wakes : (i : ℕ) (l : LinkState) (h : IsHealthyAt i l old) → Holds l old → Awake old i l h

module _ (R : ℕ → WorldState → WorldState → Type 0) (ticks : ℕ) (Holds : LinkState → WorldState → Type 0) (Other : Side → ℕ → Type 0) (first : ℕ)
    (gives : Algorithms) (old : WorldState) (m : MeetsBy R ticks Holds Other first gives old) where
  -- of each healthy cable it holds
  holds_of : (i : ℕ) (l : LinkState) → IsHealthyAt i l old → Holds l old
  holds_of i l h = let e = ends_at i l old h One in
      holds_there Holds old m.cabling i l h (elim (m.heard One e.0 e.1 e.3 e.4) [
        | inl y ↦ y
        | inr o ↦ absurd (m.never One i l h
            (subst (Other One) (found_place (port_at One l) (half One old).state.system_ports e.0 e.1 e.2 e.3) o))
      ])

  pub awake_of : (i : ℕ) (l : LinkState) (h : IsHealthyAt i l old) → Awake old i l h
  awake_of i l h = m.wakes i l h (holds_of i l h)

  pub named_of : (i : ℕ) (l : LinkState) (h : IsHealthyAt i l old) → Named old i l h
  named_of = names old m.steady

  met : (i : ℕ) (l : LinkState) (h : IsHealthyAt i l old) (mid : WorldState) → R first old mid → KnowsSince ticks (λ s. port_at s l) (said old i l h) old mid
  met i l h = m.meets i l h (holds_of i l h)

  -- beside its ends
  beside_of : (l : LinkState) (n : ℕ) (i j : WorldState) → R n i j → TickedRounds (LeavesPorts (λ s. port_at s l)) ticks gives n i j
  beside_of l n i j h = rounds_beside (λ s. port_at s l) ticks gives n i j (m.kind.are n i j h)

  module _ (mid top : WorldState) (h : R first old mid) (more : R 20 mid top) where
    middle : IsSteady mid
    middle = steady_on gives old mid (passed m.kind first old mid h) m.steady

    start : (s : Side) → IsAsBefore s old mid
    start = before_on gives old mid m.steady (passed m.kind first old mid h)

    links_of : (s : Side) → EnoughLinks (half s mid).state
    links_of s = still_links s old mid (start s) (m.links s)

    -- both ends of each healthy cable are SELECTED
    chosen : (i : ℕ) (l : LinkState) (y : IsHealthyAt i l old) → (s : Side) → AtIt (λ t. port_at t l) (said old i l y) s (λ p. is_selected p.choice ≡ true) mid
    chosen i l y s = let at : Side → ℕ = λ t. port_at t l in
        let w = said old i l y in
        let g = met i l y mid h in
        let e = end_here at w 1 g.known One Nothing mid g.link s in
        let small = m.kind.small in
        let known = knows_in at w (counts_of at old) (kept_of at old) ticks (slack_of ticks) 1 mid g (omega (arith, small)) s in
        at_end at w 1 g.known s mid e (timely mid middle) (λ p. is_selected p.choice ≡ true)
        (is_chosen at w g.known s mid middle (m.finds mid h s) (links_of s) (apart_ends old m.steady m.differ i l y s) (omega (arith, known)) e)

    climb : (i : ℕ) (l : LinkState) (y : IsHealthyAt i l old) → (s : Side)
        → Going (λ t. port_at t l) (said old i l y) (counts_of (λ t. port_at t l) old) (kept_of (λ t. port_at t l) old) ticks 1 0 0 top
        × AtIt (λ t. port_at t l) (said old i l y) s (Rising 0) top
    climb i l y s = let at : Side → ℕ = λ t. port_at t l in
        climbs at (said old i l y) (counts_of at old) (kept_of at old) ticks gives (named_of i l y) (awake_of i l y) m.kind.one m.kind.small s mid top
        (met i l y mid h) (chosen i l y s) (beside_of l 20 mid top more)

    -- and have risen, as the SELECTED ports have whose links are down
    ripe : (s : Side) → AllByRecursion (λ (y : SystemPort). Ripe 0 y.port) (half s top).state.system_ports
    ripe s = all_by_place (λ y. Ripe 0 y.port) (half s top).state.system_ports each
      where
        both : IsAsBefore s mid top
        both = before_on gives mid top middle (passed m.kind 20 mid top more) s

        down : EachAt (Down 0) s top
        down = sinks_in Down down_keeps down_ticks ticks gives s mid top (m.kind.are 20 mid top more)
            (down_first (half s mid).state (middle s).0 (middle s).1 (links_of s))

        each : (k : ℕ) (y : SystemPort) → slice_get (half s top).state.system_ports k ≡ Some y → Ripe 0 y.port
        each k y there =
            let x = old_port (half s mid).state.system_ports (half s top).state.system_ports k y both.numbers there in
            let z = old_port (half s old).state.system_ports (half s mid).state.system_ports k x.0 (start s).numbers x.1 in
            let enabled : y.port.enabled ≡ z.0.port.enabled = (both.alike k x.0 y x.1 there).1 ∙ ((start s).alike k z.0 x.0 z.1 x.1).1 in
            elim (cases_Bool z.0.port.enabled) [
              | inl up ↦ elim (m.heard s k z.0 z.1 up) [
                | inl it ↦ (let number : y.number ≡ port_at s it.link = x.2 ∙ (z.2 ∙ sym it.joins) in
                    λ _. (all-get (λ (q : SystemPort). AtPort (port_at s it.link) (Rising 0) q.number q.port) (half s top).state.system_ports k y
                    there (climb it.index it.link it.healthy s).1 number).1)
                | inr o ↦ m.idle mid top h more s k z.0 y z.1 up o there
              ]
              | inr gone ↦ (all-get (λ (q : SystemPort). Down 0 q.number q.port) (half s top).state.system_ports k y there down
                  (enabled ∙ gone)).1
            ]

    synced : (i : ℕ) (l : LinkState) (y : IsHealthyAt i l old) → (s : Side) → AtIt (λ t. port_at t l) (said old i l y) s Synced top
    synced i l y s = let c = climb i l y s in
        climbed_end (λ t. port_at t l) (said old i l y) c.0.known s top (ripe s) c.0.link c.1

  -- so in so many rounds more both ends come to agree

  pub ups_of : (i : ℕ) (l : LinkState) (y : IsHealthyAt i l old) (n : ℕ) (new : WorldState) → first + (31 + ticks + ticks) ≤ n → R n old new
      → AgreesIn (λ s. port_at s l) (said old i l y) (counts_of (λ s. port_at s l) old) (kept_of (λ s. port_at s l) old) ticks new
  ups_of i l y n new enough h = let at : Side → ℕ = λ s. port_at s l in
      let cut = m.kind.split (n - first) first n old new (omega (arith, enough)) h in
      let up = m.kind.split (n - first - 20) 20 (n - first) cut.0 new (omega (arith, enough)) cut.2 in
      comes_to_agree at (said old i l y) (counts_of at old) (kept_of at old) ticks gives (named_of i l y) (awake_of i l y) m.kind.one m.kind.small
      (n - first - 20) up.0 new (omega (arith, enough)) (climb cut.0 up.0 cut.1 up.1 i l y One).0 (synced cut.0 up.0 cut.1 up.1 i l y)
      (beside_of l (n - first - 20) up.0 new up.2)

  -- and go on, in rounds of several ticks beside the ends of the cable

  module _ (i : ℕ) (l : LinkState) (y : IsHealthyAt i l old) (n k : ℕ) (mid new : WorldState) (enough : first + (31 + ticks + ticks) ≤ n)
      (h : R n old mid) (more : TickedRounds (LeavesPorts (λ s. port_at s l)) most_ticks gives k mid new) where
    are_synced : AreSynced (λ s. port_at s l) (said old i l y) new
    are_synced = let at : Side → ℕ = λ s. port_at s l in
        let counts = counts_of at old in
        let kept = kept_of at old in
        let w = said old i l y in
        agreed_synced gives at w old new most_ticks (omega arith) (keeps_agreeing at w counts kept most_ticks gives (named_of i l y) (awake_of i l y)
        (omega arith) (omega arith) k mid new (m.kind.lasts at w counts kept mid (ups_of i l y n mid enough h)) more)

    pub distribute_of : (s : Side) → AtEnd Distributes s l new
    distribute_of = distributes (λ s. port_at s l) (said old i l y) new are_synced

    pub agree_of : IsWorldSound old → agreement_at new (suc i) ≡ Some Same
    agree_of sound = agree_still i l old new sound (stands_on (λ s. port_at s l) most_ticks gives k old mid new
        (stands_in ticks gives n i l old mid sound.cabling y (m.kind.are n old mid h)) more) y are_synced

-- where each port whose link is up ends a healthy cable

abbrev pub Nowhere : Side → ℕ → Type 0
Nowhere s n = ⊥

-- the laws of a bundle

module _ (Plays : Playing) (ticks : ℕ) (Holds : LinkState → WorldState → Type 0) (first : ℕ) (gives : Algorithms)
    (k : LinksMeetBy Plays ticks Holds first gives) where
  pub ends_know : EndsOfEachKnow Plays Holds first gives
  ends_know n i l old new cabling steady healthy holds enough h = let at : Side → ℕ = λ t. port_at t l in
      let small = k.kind.small in
      met_knows at (said old i l healthy) (counts_of at old) (kept_of at old) ticks (slack_of ticks) (omega (arith, small)) l (λ t. refl) new
      (k.meet n old new cabling steady i l healthy holds enough h)

  pub alone : (old : WorldState) → IsBundle Holds old → MeetsBy (Plays gives) ticks Holds Nowhere first gives old
  alone old b = record {
    steady = b.steady;
    cabling = b.cabling;
    differ = b.differ;
    heard = λ s m x e up. inl (b.heard s m x e up);
    kind = k.kind;
    finds = λ mid h. shared_finds old mid b.steady (lasts_on gives old mid b.steady (passed k.kind first old mid h)) Holds b.heard
        (λ i l y. ends_know first i l old mid b.cabling b.steady y (heard_holds Holds old b.cabling b.heard i l y) (omega arith) h) b.aggregators;
    links = b.links;
    never = λ s i l h o. o;
    idle = λ mid top h more s m z y there up o now. absurd o;
    meets = λ i l h y mid r. k.meet first old mid b.cabling b.steady i l h y (omega arith) r;
    wakes = k.wake old;
  }

  pub each_link_comes_up : EachLinkComesUp Plays Holds (first + (31 + ticks + ticks)) gives
  each_link_comes_up n i l old new b y enough h =
      distribute_of (Plays gives) ticks Holds Nowhere first gives old (alone old b) i l y n 0 new new enough h refl

  pub each_link_agrees : EachLinkAgrees Plays Holds (first + (31 + ticks + ticks)) gives
  each_link_agrees n i l old new sound b y enough h =
      agree_of (Plays gives) ticks Holds Nowhere first gives old (alone old b) i l y n 0 new new enough h refl sound

  -- and then after any number of rounds of this kind
  module _ (More : LinkState → Algorithms → ℕ → WorldState → WorldState → Type 0)
      (are : (l : LinkState) (n : ℕ) (old new : WorldState) → More l gives n old new → TickedRounds (LeavesPorts (λ s. port_at s l)) most_ticks gives n old new) where
    pub each_link_stays_up : (n m i : ℕ) (l : LinkState) (old mid new : WorldState) → IsBundle Holds old → IsHealthyAt i l old
        → first + (31 + ticks + ticks) ≤ n → Plays gives n old mid → More l gives m mid new → (s : Side) → AtEnd Distributes s l new
    each_link_stays_up n m i l old mid new b y enough h more =
        distribute_of (Plays gives) ticks Holds Nowhere first gives old (alone old b) i l y n m mid new enough h (are l m mid new more)

    pub each_link_stays_agreed : (n m i : ℕ) (l : LinkState) (old mid new : WorldState) → IsWorldSound old → IsBundle Holds old → IsHealthyAt i l old
        → first + (31 + ticks + ticks) ≤ n → Plays gives n old mid → More l gives m mid new → agreement_at new (suc i) ≡ Some Same
    each_link_stays_agreed n m i l old mid new sound b y enough h more =
        agree_of (Plays gives) ticks Holds Nowhere first gives old (alone old b) i l y n m mid new enough h (are l m mid new more) sound

-- beside the ends of a cable, of one tick or of several

pub beside_once : (gives : Algorithms) (l : LinkState) (n : ℕ) (old new : WorldState) → RoundsBeside l gives n old new
    → TickedRounds (LeavesPorts (λ s. port_at s l)) most_ticks gives n old new
beside_once gives l n old new h = rounds_once (LeavesPorts (λ s. port_at s l)) most_ticks gives (omega arith) n old new h
