-- A port of a healthy cable is drained of a conversation that is held on it.
use Rattle.lagprogress.proofs.Common.{Bool, Err, IsSome, List, None, Ok, Option, Result, Some, [], ap, arith, cond, eqb, false, inl, inr, length, ltb}
use Rattle.lagprogress.proofs.Common.{refl, subst, suc, sym, true, zero, ℕ, ◌&&◌, ◌+◌, ◌-◌, ◌==◌, ◌^◌, ◌∙◌, ◌∷◌, ◌≡◌, ◌≤◌, ◌⊎◌, cases_Bool, nat_tests}
use Rattle.lagprogress.proofs.Common.{none-some, AllByRecursion, AggId, Choice, is_selected, Lacpdu, IsCabling, One, Side, peer, Machines, is_due}
use Rattle.lagprogress.proofs.Common.{Assignment, after_tick, marker_due, IsConversation, Table, assignment_of, next_identifier, HostReply}
use Rattle.lagprogress.proofs.Common.{SystemFault, OffersIf, Offer, Receive, Step, Transmit, HostPromise, GivesOrRefuses, TransmitsAt, Set_max_delay}
use Rattle.lagprogress.proofs.Common.{CallPromise, SystemState, machines_of, port_index, found_place, Event, Reply, Algorithms, WorldSteps, side_of}
use Rattle.lagprogress.proofs.Common.{world_setup, ItemValue, WorldState, half, port_at, ForcesPort, HostEvent, HostSteps, Leaves, Offers, Plays}
use Rattle.lagprogress.proofs.Common.{Probes, Sets, DrainingRounds, IsDrainingRound, IsNoMoveOf, AfterTick, AtSomeWorld, IsBetweenTicks, IsHostRound}
use Rattle.lagprogress.proofs.Common.{IsQuiet, NoneIsLeft, RunReplies, StepReplies, TickOnce, OldArrive, NothingInFlight, OfPort, AfterTicks}
use Rattle.lagprogress.proofs.Common.{TicksAmong}
use Rattle.lagprogress.proofs.Quieting.{as_beside, IsCalm, calm_quiet, calm_timely, calm_keeps, leaves_link, leaves_quiet, quiet_cable, offered_half}
use Rattle.lagprogress.proofs.Quieting.{moved_half, forced_half, Grown, asked_half, came_half, leaves}
use Rattle.lagprogress.proofs.Linked.{each_side, Fits, Link, asked_which, peer_twice, EndPort, end_here, other_side}
use Rattle.lagprogress.proofs.Holding.{has_on, Has, Fine, Flights, ticked_fine, IsMarker, asking, answering}
use Rattle.lagprogress.proofs.Halves.{AreTimely}
use Rattle.lagprogress.proofs.HostSteady.{IsAside, aside, asked_by, beside_next, caller, delay_keeps, gives_next, probes_half, Probed}
use Rattle.lagsystem.specs.declared.drive.HostCall.TheVariants as host
use Rattle.lagsystem.specs.declared.drive.HostReply.TheVariants as told
use Rattle.lagprogress.proofs.Answering.{IsFine, Steady, fine_in_map, turned_by, sends_fine, settles_all, stays_on, went_flights, none_wanted}
use Rattle.lagprogress.proofs.Answering.{probes_fine, probes_beside, not_wanted, none_due, after_tick_on, comes_fine, elsewhere_fine, peer_answers}
use Rattle.lagprogress.proofs.Climbing.{PartnerInSync, choice_along, partner_along, ticks_partner, ticks_still}
use Rattle.lagprogress.proofs.EndFacts.{Along, activity, both_along}
use Rattle.lagprogress.proofs.OneCable.{Arrives, Asks, OnCable, Went, asks, cable, delivers, ticks, towards_there, Beside, push, puts, port_there}
use Rattle.lagprogress.proofs.OneRound.{join, one_of_both, ticked, Nothing}
use Rattle.lagprogress.proofs.Knowing.{Met, AtIt, beside, awake_peer, fits_fresh, knows_late, stays_met, fits_before}
use Rattle.lagprogress.proofs.LateLoops.{host_round_is_late_round}
use Rattle.lagprogress.proofs.EachRound.{played_join}
use Rattle.lagprogress.proofs.SeveralTicks.{once_turns, TickStages, Within, fits_at, known_at, none_counted, own_at, peer_at, ticks_on}
use Rattle.lagprogress.proofs.Claims.{IsNamed}
use Rattle.lagprogress.proofs.HostRound.{of_side, MadeByTick, healthy_link, KeptAmong, between}
use Rattle.lagsystem.specs.declared.drive.Reply.TheVariants as answer
use Rattle.lagscript.specs.declared.event.Event.TheVariants as event

-- identifiers

below_top : (top m n : ℕ) → m ≤ n → IsSome (cond (ltb n top) (Some n) None) → IsSome (cond (ltb m top) (Some m) None)
below_top top m n l h = grind (arith, nat_tests)

left_before : (t u : Table) → t.next ≤ u.next → IsSome (next_identifier u) → IsSome (next_identifier t)
left_before t u l h = below_top (2 ^ 32) t.next u.next l h

calls_next : (gives : ℕ → ℕ → ℕ → Type 0) (n : ℕ) (octets : List ℕ) (a : _) (old new : SystemState) → Step gives old (Receive n octets) (answer.Receive a) new
    → new.table.next ≡ old.table.next
calls_next gives n octets a old new h = grind (arith, nat_tests)

asks_next : (gives : ℕ → ℕ → ℕ → Type 0) (n : ℕ) (a : Result (Option (List ℕ)) SystemFault) (old new : SystemState)
    → Step gives old (Transmit n) (answer.Transmit a) new → old.table.next ≤ new.table.next
asks_next gives n a old new h = grind (arith, nat_tests)

abbrev Rising : Side → WorldState → WorldState → Type 0
Rising s old new = (half s old).state.table.next ≤ (half s new).state.table.next

same_next : (s : Side) (old new : WorldState) → (half s new).state ≡ (half s old).state → Rising s old new
same_next s old new e = subst (λ (t : SystemState). (half s old).state.table.next ≤ t.table.next) (sym e) (omega arith)

offers_next : (gives : ℕ → ℕ → ℕ → Type 0) (agg : AggId) (octets : List ℕ) (a : Result ℕ SystemFault) (old new : SystemState)
    → Step gives old (Offer agg octets) (answer.Offer a) new → old.table.next ≤ new.table.next
offers_next gives agg octets a old new h = grind (arith, nat_tests)

tick_next : (s t : Side) (gives : Algorithms) (n : ℕ) (r : Reply) (old new : WorldState) → side_of n ≡ Some t
    → WorldSteps gives old (event.Tick n 1) r new → Rising s old new
tick_next s t gives n r old new named h = grind (arith, nat_tests)

-- the events of a round
between_next : (s : Side) (gives : Algorithms) (e : HostEvent) (r : Reply) (old new : WorldState) → IsBetweenTicks e → StepReplies gives old e r new
    → Rising s old new
between_next s gives (Plays (event.Emit n p)) r old new b h = elim (asked_half gives n p r old new h s) [
  | inl same ↦ same_next s old new same
  | inr (a, step) ↦ asks_next (gives s) p a (half s old).state (half s new).state step
]
between_next s gives (Plays (event.Deliver c n)) r old new b h = elim (came_half gives c n r old new h s) [
  | inl same ↦ same_next s old new same
  | inr (k, l, there, m) ↦ (let same = calls_next (gives s) (port_at s l) m.item.octets m.a (half s old).state (half s new).state m.promise.step in
      omega (arith, same))
]
between_next s gives (Plays (event.Offer n agg octets)) r old new b h = grind (arith, nat_tests, offered_half, h, same_next, offers_next)
between_next s gives (Plays (event.Move n agg conv p)) r old new b h = grind (arith, nat_tests, moved_half, h, same_next, gives_next)
between_next s gives (Plays (event.Force n agg conv)) r old new b h = grind (arith, nat_tests, forced_half, h, same_next, gives_next)
between_next s gives (Plays e) r old new b h = absurd b
between_next s gives (Sets t (Set_max_delay delay)) r old new b h = grind (arith, nat_tests)
between_next s gives (Sets t setting) r old new b h = absurd b
between_next s gives e r old new b h =
    let x = aside gives e old new tt h in each_side (λ t. Rising t old new) (caller e) (beside_next x) (same_next (peer (caller e)) old new x.peers) s

one_next : (s t : Side) (gives : Algorithms) (a b : Bool) (e : HostEvent) (es : List HostEvent) (r : Reply) (old new : WorldState)
    → TickOnce t a b (e ∷ es) → StepReplies gives old e r new → Rising s old new
one_next s t gives a b e es r old new i h = grind (arith, nat_tests, tick_next, peer, between_next)

rest_ticks : (t : Side) (a b : Bool) (e : HostEvent) (es : List HostEvent) → TickOnce t a b (e ∷ es) → (c : Bool) × (d : Bool) × TickOnce t c d es
rest_ticks t a b e es h = grind (arith, nat_tests)

run_next : (s t : Side) (gives : Algorithms) (a b : Bool) (es : List HostEvent) (rs : List Reply) (old new : WorldState) → TickOnce t a b es
    → RunReplies gives old es rs new → Rising s old new
run_next s t gives a b [] [] old new h run = same_next s old new (ap (λ (j : WorldState). (half s j).state) run)
run_next s t gives a b (e ∷ es) (r ∷ rs) old new h run = let o = rest_ticks t a b e es h in
    let one = one_next s t gives a b e es r old run.0 h run.1 in
    let more = run_next s t gives o.0 o.1 es rs run.0 new o.2 run.2 in
    omega (arith, one, more)
run_next s t gives a b es rs old new h run = absurd run

-- an identifier is left while nothing is due, if one is in the end

-- an identifier is left at system s
abbrev HasLeft : Side → WorldState → Type 0
HasLeft s j = IsSome (next_identifier (half s j).state.table)

some_left : (s t : Side) (P : WorldState → Type 0) (gives : Algorithms) (a b : Bool) (es : List HostEvent) (rs : List Reply) (old new : WorldState)
    → TickOnce t a b es → (run : RunReplies gives old es rs new) → HasLeft s new → AtSomeWorld P gives es rs old new run
    → AtSomeWorld (λ j. P j × HasLeft s j) gives es rs old new run
some_left s t P gives a b [] [] old new h run left y = (y, subst (HasLeft s) run left)
some_left s t P gives a b (e ∷ es) (r ∷ rs) old new h run left (inl y) =
    inl (y, left_before (half s old).state.table (half s new).state.table (run_next s t gives a b (e ∷ es) (r ∷ rs) old new h run) left)
some_left s t P gives a b (e ∷ es) (r ∷ rs) old new h run left (inr y) =
    let o = rest_ticks t a b e es h in inr (some_left s t P gives o.0 o.1 es rs run.0 new o.2 run.2 left y)
some_left s t P gives a b es rs old new h run left y = absurd run

-- a round of one tick is one of several
after_left : (s t : Side) (P : WorldState → Type 0) (gives : Algorithms) (a b : Bool) (es : List HostEvent) (rs : List Reply) (old new : WorldState)
    → TickOnce t a b es → (run : RunReplies gives old es rs new) → HasLeft s new → AfterTick s P gives es rs old new run
    → AfterTicks s (λ j. P j × HasLeft s j) 1 gives es rs old new run
after_left s t P gives a b (e ∷ es) (r ∷ rs) old new h run left (inl y) = grind (arith, nat_tests, rest_ticks, some_left)
after_left s t P gives a b (e ∷ es) (r ∷ rs) old new h run left (inr y) =
    let o = rest_ticks t a b e es h in inr (after_left s t P gives o.0 o.1 es rs run.0 new o.2 run.2 left y)
after_left s t P gives a b es rs old new h run left y = absurd y

still_turns : (s : Side) (Is : HostEvent → Type 0) (es : List HostEvent) (a b : ℕ) → AllByRecursion Is es → TicksAmong IsBetweenTicks 1 s a b es
    → TicksAmong (λ e. IsBetweenTicks e × Is e) 1 s a b es
still_turns s Is [] a b all h = h
still_turns s Is (e ∷ es) a b all (inl h) = inl (h.0, still_turns s Is es (suc a) b all.1 h.1)
still_turns s Is (e ∷ es) a b all (inr (inl h)) = inr (inl (h.0, still_turns s Is es a (suc b) all.1 h.1))
still_turns s Is (e ∷ es) a b all (inr (inr h)) = inr (inr ((h.0, all.0), still_turns s Is es a b all.1 h.1))

-- the event probes another port than this one of system s, or none
abbrev IsNoProbe : Side → ℕ → HostEvent → Type 0
IsNoProbe s n (Probes t port) = t ≡ s → port ≡ n → ⊥
IsNoProbe s n e = Unit {0}

-- another conversation is moved

apart : (a b c d : ℕ) → (a ≡ c → b ≡ d → ⊥) → (eqb a c && eqb b d) ≡ false
apart a b c d h = grind (arith, nat_tests)

moved_elsewhere : (group : AggId) (moved agg conv : ℕ) (what : Result Assignment SystemFault) (a : Result Unit SystemFault) (old new : SystemState)
    → (group.0 ≡ agg → moved ≡ conv → ⊥) → GivesOrRefuses group moved what old a new → assignment_of new.table agg conv ≡ assignment_of old.table agg conv
moved_elsewhere group moved agg conv what a old new other h = grind (arith, nat_tests)

module _ (at : Side → ℕ) (w : Side → Lacpdu) (named : (t : Side) → IsNamed (w t)) (awake : (s : Side) → (activity (w s) ≡ true) ⊎ (activity (w (peer s)) ≡ true)) (s : Side)
    (mac : List ℕ) (agg conv : ℕ) (c : Choice) (chosen : is_selected c ≡ true) (gives : Algorithms) (counts : Side → ℕ) (kept : Side → Bool) where
  abbrev pub Y : Machines → Type 0
  Y p = Steady at w s mac agg conv c p

  abbrev pub FineIn : ℕ → Type 0 → (ℕ → Type 0) → Table → Type 0
  FineIn m W F t = IsFine at w s mac agg conv m W F t

  along : (kn : Side → ℕ) → 1 ≤ kn s → Along Y (w s) (w (peer s)) (kn s) 2
  along kn l = both_along PartnerInSync (λ p. p.choice ≡ c) (w s) (w (peer s)) (kn s) 2
      (partner_along (w s) (w (peer s)) (kn s) 2 (omega arith) (awake_peer w awake s))
      (choice_along (w s) (w (peer s)) (kn s) 2 c chosen (omega arith) l)

  -- what is fixed of the system
  pub record IsFixed (j : WorldState) : Type 0 where
    pub own : (half s j).state.system.mac ≡ mac
    pub there : IsConversation (half s j).state.table agg conv

  fixed : (e : HostEvent) (r : Reply) (old new : WorldState) → IsCalm e → StepReplies gives old e r new → AreTimely old → IsFixed old → IsFixed new
  fixed e r old new calm h steady f = let now = calm_timely gives e r old new h steady in
      let keys = calm_keeps ℕ (λ t. length t.keys) (λ t a b. refl) (λ t a. refl) (λ t d. refl) gives e r old new calm h s in
      let cols = calm_keeps ℕ (λ t. t.conversations) (λ t a b. refl) (λ t a. refl) (λ t d. refl) gives e r old new calm h s in
      record {
        own = calm_keeps (List ℕ) (λ t. t.system.mac) (λ t a b. refl) (λ t a. refl) (λ t d. refl) gives e r old new calm h s ∙ f.own;
        there = grind (arith, nat_tests);
      }

  -- within a round
  record Mid (m : ℕ) (W : Type 0) (kn : Side → ℕ) (j : WorldState) : Type 0 where
    link : Link 2 at w kn s Y j
    flying : Side → List ItemValue
    index : ℕ
    links : OnCable index at flying j.links
    same : IsFixed j
    fine : FineIn m W (Flights s (at s) mac flying) (half s j).state.table

  -- another event of a round
  made : {m l : ℕ} {V : Type 0} {kn to : Side → ℕ} {old new : WorldState} (W : Type 0) (e : HostEvent) (r : Reply) → IsCalm e
      → StepReplies gives old e r new → Mid m V kn old → Link 2 at w to s Y new → (fl : Side → List ItemValue) (i : ℕ) → OnCable i at fl new.links
      → FineIn l W (Flights s (at s) mac fl) (half s new).state.table → Mid l W to new
  made W e r calm h d link fl i links fine = grind (arith, nat_tests, fixed)

  -- the port is asked
  own_asked : {kn : Side → ℕ} (m : ℕ) (W : Type 0) (a : Result (Option (List ℕ)) SystemFault) (j new : WorldState) (fl now : Side → List ItemValue)
      → EndPort at w 2 kn s j → IsFixed j → CallPromise (gives s) (half s j).state (Transmit (at s)) (answer.Transmit a) (half s new).state → Went s a fl now
      → FineIn m W (Flights s (at s) mac fl) (half s j).state.table → FineIn m W (Flights s (at s) mac now) (half s new).state.table
  own_asked m W (Err fault) j new fl now z f h went fine = absurd (none-some z.index (sym h.step.cause ∙ z.place))
  own_asked m W (Ok o) j new fl now z f h went fine =
      let t = subst (λ i. TransmitsAt i (half s j).state o (half s new).state) z.place h.step in
      let number : t.0.number ≡ at s = found_place (at s) (half s j).state.system_ports z.index t.0 z.place t.1 in
      sends_fine at w s mac agg conv t.0.port.enabled (is_due t.0.port) z.index t.0 (half s j).state o (half s new).state fl now m W number
      f.own t.2 went fine

  peer_asked : (m : ℕ) (W : Type 0) (j new : WorldState) (fl : Side → List ItemValue) (k : Asks gives (peer s) at fl j new)
      → FineIn m W (Flights s (at s) mac fl) (half s j).state.table → FineIn m W (Flights s (at s) mac k.now) (half s new).state.table
  peer_asked m W j new fl k fine =
      let same : (half s new).state ≡ (half s j).state = subst (λ t. (half t new).state ≡ (half t j).state) (peer_twice s) k.peers in
      subst (λ (t : SystemState). FineIn m W (Flights s (at s) mac k.now) t.table) (sym same)
      (fine_in_map at w s mac agg conv m W W (Flights s (at s) mac fl) (Flights s (at s) mac k.now) (half s j).state.table (λ x. x)
      (went_flights at w s mac agg conv (peer s) k.a fl k.now k.went) fine)

  module _ (kn : Side → ℕ) (fits : Fits 2 w kn) where
    linked : (e : HostEvent) (r : Reply) (i j : WorldState) → IsBetweenTicks e → StepReplies gives i e r j → Link 2 at w kn s Y i → Link 2 at w kn s Y j
    linked e r i j b = between gives 2 at w kn s Y fits (along kn ((fits s).2 (omega arith))) (λ q y. y) e r i j (leaves at e b)

    mid_beside : (m : ℕ) (W : Type 0) (e : Event) (r : Reply) (old new : WorldState) → WorldSteps gives old e r new → (d : Mid m W kn old)
        → Link 2 at w kn s Y new → Beside gives at d.flying old new → Mid m W kn new
    mid_beside m W e r old new h d link b = made W (Plays e) r tt h d link d.flying b.index b.links
        (elsewhere_fine at w s mac agg conv (gives s) (half s old).state (half s new).state m W (Flights s (at s) mac d.flying)
        (b.calls s) (stays_on at w s mac agg conv c kn kn old new d.link link) d.fine)

    mid_asked : (m : ℕ) (W : Type 0) (n p : ℕ) (r : Reply) (old new : WorldState) → WorldSteps gives old (event.Emit n p) r new
        → Mid m W kn old → Mid m W kn new
    mid_asked m W n p r old new h d = elim (asked_which gives n p d.index at d.flying r old new d.links h) [
      | inl (t, told, is) ↦ asked t (asks gives n t d.index at d.flying r old new told d.links
          (subst (λ q. WorldSteps gives old (event.Emit n q) r new) is h))
      | inr b ↦ mid_beside m W (event.Emit n p) r old new h d link b
    ]
      where
        link : Link 2 at w kn s Y new
        link = linked (Plays (event.Emit n p)) r old new tt h d.link

        asked : (t : Side) (k : Asks gives t at d.flying old new) → Mid m W kn new
        asked t k = elim (one_of_both s t) [
          | inl e ↦ (let o = subst (λ u. Asks gives u at d.flying old new) e k in
              made W (Plays (event.Emit n p)) r tt h d link o.now o.index o.links
              (own_asked m W o.a old new d.flying o.now (end_here at w 2 kn s Y old d.link s) d.same o.promise o.went d.fine))
          | inr e ↦ (let o = subst (λ u. Asks gives u at d.flying old new) e k in
              made W (Plays (event.Emit n p)) r tt h d link o.now o.index o.links (peer_asked m W old new d.flying o d.fine))
        ]

    mid_delivers : (m : ℕ) (W : Type 0) (cn n : ℕ) (r : Reply) (old new : WorldState) → WorldSteps gives old (event.Deliver cn n) r new
        → Mid m W kn old → Mid m W kn new
    mid_delivers m W cn n r old new h d = elim (delivers gives cn n d.index at d.flying r old new d.links h) [
      | inl (t, k) ↦ came t k
      | inr b ↦ mid_beside m W (event.Deliver cn n) r old new h d link b
    ]
      where
        link : Link 2 at w kn s Y new
        link = linked (Plays (event.Deliver cn n)) r old new tt h d.link

        came : (t : Side) (k : Arrives gives t at d.flying old new) → Mid m W kn new
        came t k = elim (one_of_both s t) [
          | inl e ↦ (let o = subst (λ u. Arrives gives u at d.flying old new) e k in
              let z = end_here at w 2 kn s Y old d.link s in
              made W (Plays (event.Deliver cn n)) r tt h d link o.now o.index o.links
              (comes_fine at w s mac agg conv gives d.flying old new z.index z.port m W z.place z.there z.is.1.0 d.same.own o
              (stays_on at w s mac agg conv c kn kn old new d.link link) d.fine))
          | inr e ↦ (let o = subst (λ u. Arrives gives u at d.flying old new) e k in
              let z = end_here at w 2 kn s Y old d.link (peer s) in
              let still : (half s new).state ≡ (half s old).state = subst (λ u. (half u new).state ≡ (half u old).state) (peer_twice s) o.peers in
              made W (Plays (event.Deliver cn n)) r tt h d link o.now o.index o.links
              (subst (λ (y : SystemState). FineIn m W (Flights s (at s) mac o.now) y.table) (sym still)
              (fine_in_map at w s mac agg conv m W W (Flights s (at s) mac d.flying) (Flights s (at s) mac o.now) (half s old).state.table
              (λ x. x) (peer_answers at w s mac agg conv gives d.flying old new z.index z.port z.place z.there z.is.1.0 o) d.fine)))
        ]

    -- what is known of it goes on while the cable grows
    grown : (m : ℕ) (W : Type 0) (old new : WorldState) (d : Mid m W kn old) (g : Grown d.index at d.flying new)
        → FineIn m W (Flights s (at s) mac g.flying) (half s old).state.table
    grown m W old new d g = fine_in_map at w s mac agg conv m W W (Flights s (at s) mac d.flying) (Flights s (at s) mac g.flying)
        (half s old).state.table (λ x. x) flights d.fine
      where
        has : (P : ItemValue → Type 0) (t : Side) → Has P (d.flying t) → Has P (g.flying t)
        has P t y = elim (g.grew t) [ inl e ↦ subst (Has P) (sym e) y | inr x ↦ subst (Has P) (sym x.2) (has_on P (d.flying t) (x.0 ∷ []) y) ]

        flights : (id : ℕ) → Flights s (at s) mac d.flying id → Flights s (at s) mac g.flying id
        flights id (inl y) = inl (has (IsMarker (asking (at s) mac id)) (peer s) y)
        flights id (inr y) = inr (has (IsMarker (answering (at s) mac id)) s y)

    offered_frame : (m : ℕ) (W : Type 0) (F : ℕ → Type 0) (group : AggId) (octets : List ℕ) (a : Result ℕ SystemFault) (old new : SystemState)
        → Step (gives s) old (Offer group octets) (answer.Offer a) new → FineIn m W F old.table → FineIn m W F new.table
    offered_frame m W F group octets a old new h fine = grind (arith, nat_tests)

    numbered_frame : (there known : Bool) (m : ℕ) (W : Type 0) (F : ℕ → Type 0) (group : AggId) (moved : ℕ) (a : Result ℕ SystemFault)
        (old new : SystemState) → OffersIf there known (gives s) group moved old a new → FineIn m W F old.table → FineIn m W F new.table
    numbered_frame there known m W F group moved a old new h fine = grind (arith, nat_tests)

    module _ (m : ℕ) (W : Type 0) (F : ℕ → Type 0) where
      -- a call leaves the conversation if it is another system's, or if this one's leaves it
      of_side_called : (t : Side) (old new : WorldState) → (half (peer t) new).state ≡ (half (peer t) old).state
          → (t ≡ s → FineIn m W F (half s old).state.table → FineIn m W F (half s new).state.table)
          → FineIn m W F (half s old).state.table → FineIn m W F (half s new).state.table
      of_side_called t old new peers own fine = grind (arith, nat_tests)

      elsewhere : (group : AggId) (moved : ℕ) (what : Result Assignment SystemFault) (a : Result Unit SystemFault) (old new : SystemState)
          → (group.0 ≡ agg → moved ≡ conv → ⊥) → GivesOrRefuses group moved what old a new → FineIn m W F old.table → FineIn m W F new.table
      elsewhere group moved what a old new other h = subst (Fine (at s) m W F) (sym (moved_elsewhere group moved agg conv what a old new other h))

      forces_fine : (port : ℕ) (a : Result ℕ SystemFault) (old new : SystemState) → IsConversation old.table agg conv
          → HostPromise (gives s) old (host.ForcePort port) (told.ForcePort a) new → FineIn m W F old.table → FineIn m W F new.table
      forces_fine port a old new there p fine = grind (arith, nat_tests)

      -- a probe of another port, or of the other system
      probed_beside : (port : ℕ) (a : Result (Option (List ℕ)) SystemFault) (old new : SystemState) → (port ≡ at s → ⊥)
          → HostPromise (gives s) old (host.Probe port) (told.Probe a) new → FineIn m W F old.table → FineIn m W F new.table
      probed_beside port (Ok a) old new other p fine = probes_beside at w s mac agg conv (port_index port old.system_ports) old a new m W F
          (λ i z place there number. other (sym (found_place port old.system_ports i z place there) ∙ number)) p.0 fine
      probed_beside port (Err fault) old new other p fine = subst (λ (t : SystemState). FineIn m W F t.table) (sym p.0.same) fine

      -- what it promises
      told_fine : (e : HostEvent) (a : HostReply) → IsAside e → IsNoMoveOf s agg conv e → IsNoProbe s (at s) e → caller e ≡ s → (old new : SystemState)
          → IsConversation old.table agg conv → HostPromise (gives s) old (asked_by e) a new → FineIn m W F old.table → FineIn m W F new.table
      told_fine (Offers t group moved octets) (told.OfferConversation a) is still far same old new there p fine =
          numbered_frame _ _ m W F group moved a old new p.0 fine
      told_fine (Leaves t group moved) (told.LeaveConversation a) is still far same old new there p fine =
          elsewhere group moved _ a old new (still same) p.0 fine
      told_fine (HostEvent.Rests t group moved) (told.Rest a) is still far same old new there p fine =
          elsewhere group moved _ a old new (still same) p.0 fine
      told_fine (Probes t port) (told.Probe a) is still far same old new there p fine = probed_beside port a old new (far same) p fine
      told_fine (ForcesPort t port) (told.ForcePort a) is still far same old new there p fine = forces_fine port a old new there p fine
      told_fine (Plays e) a is still far same old new there p fine = absurd is
      told_fine (Sets t setting) a is still far same old new there p fine = absurd is
      told_fine e a is still far same old new there p fine = absurd p

      quiet_fine : (e : HostEvent) (r : Reply) (old new : WorldState) → IsQuiet e → IsNoMoveOf s agg conv e → IsNoProbe s (at s) e
          → IsConversation (half s old).state.table agg conv → StepReplies gives old e r new
          → FineIn m W F (half s old).state.table → FineIn m W F (half s new).state.table
      quiet_fine (Plays (event.Offer n group octets)) r old new q still far there h fine = grind (arith, nat_tests, offered_half, h, offered_frame)
      quiet_fine (Plays (event.Move n group moved p)) r old new q still far there h fine = grind (arith, nat_tests, moved_half, h, elsewhere)
      quiet_fine (Plays (event.Force n group moved)) r old new q still far there h fine = grind (arith, nat_tests, forced_half, h, elsewhere)
      quiet_fine (Plays e) r old new q still far there h fine = absurd q
      quiet_fine (Sets t (Set_max_delay delay)) r old new q still far there h fine =
          subst (FineIn m W F) (sym (delay_keeps Table (λ z. z.table) (λ z d. refl) gives t delay old new h s)) fine
      quiet_fine (Sets t setting) r old new q still far there h fine = absurd q
      quiet_fine e r old new q still far there h fine = let b = aside gives e old new tt h in
          of_side_called (caller e) old new b.peers (λ same. told_fine e b.answer tt still far same (half s old).state (half s new).state there
          (subst (λ u. HostPromise (gives u) (half u old).state (asked_by e) b.answer (half u new).state) same b.promise)) fine

    -- the port is probed
    probed_cable : (a : Result (Option (List ℕ)) SystemFault) (i : ℕ) (fl : Side → List ItemValue) (old new : WorldState) → OnCable i at fl old.links
        → Probed s (at s) a old.links new.links → (now : Side → List ItemValue) × OnCable i at now new.links × Went s a fl now
    probed_cable (Ok (Some frame)) i fl old new on (item, is, e) =
        (push (peer s) item fl, subst (OnCable i at (push (peer s) item fl)) (sym e) (puts s i at fl item old.links on), (item, is, refl))
    probed_cable (Ok None) i fl old new on e = (fl, subst (OnCable i at fl) (sym e) on, refl)
    probed_cable (Err fault) i fl old new on e = (fl, subst (OnCable i at fl) (sym e) on, refl)

    mid_probed : (m : ℕ) (W : Type 0) (r : Reply) (old new : WorldState) → HostSteps gives old (Probes s (at s)) new → Mid m W kn old → Mid m W kn new
    mid_probed m W r old new h d = let o = probes_half gives s (at s) old new h in
        let c = probed_cable o.0 d.index d.flying old new d.links o.2 in
        made W (Probes s (at s)) r tt h d (linked (Probes s (at s)) r old new tt h d.link) c.0 d.index c.1
        (by_answer o.0 o.1 c.0 c.2)
      where
        st : SystemState
        st = (half s old).state

        by_answer : (a : Result (Option (List ℕ)) SystemFault) → HostPromise (gives s) (half s old).state (host.Probe (at s)) (told.Probe a) (half s new).state
            → (now : Side → List ItemValue) → Went s a d.flying now → FineIn m W (Flights s (at s) mac now) (half s new).state.table
        by_answer (Ok a) p now went = probes_fine at w s mac agg conv (port_index (at s) st.system_ports) st a (half s new).state d.flying now m W
            (λ i z place there. found_place (at s) st.system_ports i z place there) d.same.own p.0 went d.fine
        by_answer (Err fault) p now went = subst (λ (t : SystemState). FineIn m W (Flights s (at s) mac now) t.table) (sym p.0.same)
            (subst (λ (f : Side → List ItemValue). FineIn m W (Flights s (at s) mac f) st.table) (sym went) d.fine)

    mid_quiet : (m : ℕ) (W : Type 0) (e : HostEvent) (r : Reply) (i j : WorldState) → IsQuiet e → IsNoMoveOf s agg conv e → IsNoProbe s (at s) e
        → StepReplies gives i e r j → Mid m W kn i → Mid m W kn j
    mid_quiet m W e r i j b still far h d = let g = quiet_cable gives e d.index at d.flying r i j b h d.links in
        made W e r (calm_quiet e b) h d (leaves_link gives e 2 at w kn s Y r i j (leaves_quiet at e b) h (along kn ((fits s).2 (omega arith))) d.link).link
        g.flying d.index g.on
        (quiet_fine m W (Flights s (at s) mac g.flying) e r i j b still far d.same.there h (grown m W i j d g))

    mid_one_probed : (m : ℕ) (W : Type 0) (t : Side) (port : ℕ) (r : Reply) (i j : WorldState) → HostSteps gives i (Probes t port) j → Mid m W kn i
        → Mid m W kn j
    mid_one_probed m W t port r i j h d = elim (one_of_both s t) [
      | inl e ↦ elim (cases_Bool (at s == port)) [
        | inl b ↦ (let is : port ≡ at s = grind (arith, nat_tests) in mid_probed m W r i j
            (subst (λ n. HostSteps gives i (Probes s n) j) is (subst (λ u. HostSteps gives i (Probes u port) j) e h)) d)
        | inr b ↦ (let other : port ≡ at s → ⊥ = grind (arith, nat_tests) in mid_quiet m W (Probes t port) r i j tt tt (λ f. other) h d)
      ]
      | inr e ↦ mid_quiet m W (Probes t port) r i j tt tt (λ f. absurd (other_side s (sym e ∙ f))) h d
    ]

    mid_between : (m : ℕ) (W : Type 0) → KeptAmong (λ e. IsBetweenTicks e × IsNoMoveOf s agg conv e) gives (Mid m W kn)
    mid_between m W (Plays (event.Emit n p)) r i j b h d = mid_asked m W n p r i j h d
    mid_between m W (Plays (event.Deliver cn n)) r i j b h d = mid_delivers m W cn n r i j h d
    mid_between m W (Probes t port) r i j b h d = mid_one_probed m W t port r i j h d
    mid_between m W e r i j b h d = mid_quiet m W e r i j b.0 b.1 tt h d

    -- where no marker is due and an identifier is left, it is not Wanted
    mid_drained : (m : ℕ) (W : Type 0) (j : WorldState) → marker_due (half s j).state.table (at s) ≡ None → HasLeft s j → Mid m W kn j → Mid m ⊥ kn j
    mid_drained m W j none left d = let t = (half s j).state.table in
        let zero_wanted = none_due at w s mac agg conv t left none in
        record {
          link = d.link;
          flying = d.flying;
          index = d.index;
          links = d.links;
          same = d.same;
          fine = grind (arith, nat_tests, not_wanted, assignment_of, none_wanted);
        }

  -- ticks

  own_ticked : (kn to : Side → ℕ) (m : ℕ) (W : Type 0) (n : ℕ) (r : Reply) (i j : WorldState) → side_of n ≡ Some s
      → WorldSteps gives i (event.Tick n 1) r j → (d : Mid m W kn i) → Link 2 at w to s Y j → Mid (m + 1) (Unit {0}) to j
  own_ticked kn to m W n r i j told step d link = let k = ticks gives n s r i j told step in
      made (Unit {0}) (Plays (event.Tick n 1)) r tt step d link d.flying d.index (subst (OnCable d.index at d.flying) (sym k.links) d.links)
      (settles_all at w s mac agg conv (m + 1) (Unit {0}) (Flights s (at s) mac d.flying) k.step.0 (half s j).state k.step.2
      (λ g x y. stays_on at w s mac agg conv c kn to i j d.link link g x
      (after_tick_on (at s) (assignment_of (half s i).state.table g x) (sym (k.step.1.1.states g x) ∙ y)))
      (turned_by agg conv (Fine (at s) m W (Flights s (at s) mac d.flying)) (Fine (at s) (m + 1) (Unit {0}) (Flights s (at s) mac d.flying))
      after_tick (half s i).state.table k.step.0.table k.step.1.1.states (ticked_fine (at s) m W (Flights s (at s) mac d.flying)) d.fine))

  peer_ticked : (kn to : Side → ℕ) (m : ℕ) (W : Type 0) (n : ℕ) (r : Reply) (i j : WorldState) → side_of n ≡ Some (peer s)
      → WorldSteps gives i (event.Tick n 1) r j → (d : Mid m W kn i) → Link 2 at w to s Y j → Mid m W to j
  peer_ticked kn to m W n r i j told step d link = let k = ticks gives n (peer s) r i j told step in
      let still : (half s j).state ≡ (half s i).state = subst (λ u. (half u j).state ≡ (half u i).state) (peer_twice s) k.peers in
      made W (Plays (event.Tick n 1)) r tt step d link d.flying d.index (subst (OnCable d.index at d.flying) (sym k.links) d.links)
      (subst (λ (y : SystemState). FineIn m W (Flights s (at s) mac d.flying) y.table) (sym still) d.fine)

  -- at the end of a round
  pub record Rests (m : ℕ) (W : Type 0) (j : WorldState) : Type 0 where
    pub cabling : IsCabling (world_setup j).cables
    pub fresh : Met at w counts kept 2 j
    pub steady : AtIt at w s Y j
    pub same : IsFixed j
    pub fine : FineIn m W (λ id. ⊥) (half s j).state.table

  none_flies : (j : WorldState) (i : ℕ) (fl : Side → List ItemValue) → NothingInFlight j → OnCable i at fl j.links → (id : ℕ) → Flights s (at s) mac fl id → ⊥
  none_flies j i fl none links id f = grind (arith, nat_tests, asking, empty, peer, answering)
    where
      empty : (t : Side) → fl t ≡ []
      empty t = sym (towards_there t at fl) ∙ none t i (cable at fl) links.there

  -- nothing is due there
  abbrev NoneDue : WorldState → Type 0
  NoneDue j = OfPort (λ p. is_due p ≡ false) (machines_of (at s) (half s j).state) × (marker_due (half s j).state.table (at s) ≡ None)

  -- and an identifier is left
  abbrev Drained : WorldState → Type 0
  Drained j = NoneDue j × HasLeft s j

  -- a round: what was Wanted is freed, and what waited for a response waits a tick more, or is freed
  round_rests : (m : ℕ) (W : Type 0) (old new : WorldState) → IsDrainingRound s agg conv gives old new → IsSome (next_identifier (half s new).state.table)
      → Rests m W old → Rests (m + 1) ⊥ new
  round_rests m W old new q one_left rests = record {
    cabling = subst IsCabling (sym (played_join NoneIsLeft gives 1 old new (old, refl, h))) rests.cabling;
    fresh = stays_met at w counts kept gives named awake 2 old new (omega arith)
        (as_beside at OldArrive gives old new (host_round_is_late_round gives old new rests.cabling h)) g;
    steady = beside at w 2 (kn 1 1) s Y new end.link;
    same = end.same;
    fine = fine_in_map at w s mac agg conv (m + 1) ⊥ ⊥ (Flights s (at s) mac end.flying) (λ id. ⊥) (half s new).state.table (λ x. x)
        (none_flies new end.index end.flying h.empties end.links) end.fine;
  }
    where
      h : IsHostRound gives old new
      h = q.round

      g : Met at w counts kept 2 old
      g = rests.fresh

      kn : ℕ → ℕ → Side → ℕ
      kn = known_at g.known s

      then : Fits 2 w (ticked g.known)
      then = fits_fresh at w counts kept named awake 2 old g (omega arith)

      fits : (a b : ℕ) → Within 1 a b → Fits 2 w (kn a b)
      fits = fits_at 2 w g.known s 1 (fits_before at w counts kept named awake 2 old g (omega arith)) then

      some : 1 ≤ g.known s - 0 - 1
      some = let l = knows_late at w counts kept 2 old g s in omega (arith, l)

      along_at : (a : ℕ) → a ≤ 1 → Along Y (w s) (w (peer s)) (g.known s - a) 2
      along_at a few = along (λ t. g.known t - a) (let l = knows_late at w counts kept 2 old g s in omega (arith, l, few))

      May : HostEvent → Type 0
      May e = IsBetweenTicks e × IsNoMoveOf s agg conv e

      A : ℕ → ℕ → WorldState → Type 0
      A zero b = Mid m W (kn 0 b)
      A (suc a) b = Mid (m + 1) (Unit {0}) (kn (suc a) b)

      first : (a b : ℕ) → Within 1 a b → KeptAmong May gives (A a b)
      first zero b l = mid_between (kn 0 b) (fits 0 b l) m W
      first (suc a) b l = mid_between (kn (suc a) b) (fits (suc a) b l) (m + 1) (Unit {0})

      own : (a b : ℕ) → Within 1 (suc a) b → MadeByTick gives s (A a b) (A (suc a) b)
      own zero b l n r i j told step d = own_ticked (kn 0 b) (kn 1 b) m W n r i j told step d
          (own_at gives s 2 at w g.known 1 Y Y then 0 b l (along_at 1 (omega arith)) (λ p q run rest a y. (
            ticks_partner 2 (w s) (w (peer s)) (g.known s - 0) p q some run a y.0,
            (subst (λ (r : Machines). r.choice ≡ c) (sym (ticks_still 2 (w s) (w (peer s)) (g.known s - 0) p q some a run)) y.1),
          )) n r i j told step d.link)
      own (suc a) b l n r i j told step d = absurd (let k = l.0 in omega (arith, k))

      other : (a b k : ℕ) (V : Type 0) → Within 1 a (suc b) → MadeByTick gives (peer s) (Mid k V (kn a b)) (Mid k V (kn a (suc b)))
      other a b k V l n r i j told step d = peer_ticked (kn a b) (kn a (suc b)) k V n r i j told step d
          (peer_at gives s 2 at w g.known 1 Y then a b l (along_at a l.0) n r i j told step d.link)

      other_first : (a b : ℕ) → Within 1 a (suc b) → MadeByTick gives (peer s) (A a b) (A a (suc b))
      other_first zero b l = other 0 b m W l
      other_first (suc a) b l = other (suc a) b (m + 1) (Unit {0}) l

      stages : TickStages May gives 1 s A (λ b. Mid (m + 1) ⊥ (kn 1 b)) Drained
      stages = record {
        none = λ n b. b.0;
        first = first;
        third = λ b l. mid_between (kn 1 b) (fits 1 b (omega arith, l)) (m + 1) ⊥;
        own = own;
        other_first = other_first;
        other_third = λ b l. other 1 b (m + 1) ⊥ (omega arith, l);
        rests = λ b l j p d. mid_drained (kn 1 b) (fits 1 b (omega arith, l)) (m + 1) (Unit {0}) j p.0.1 p.1 d;
      }

      link : Link 2 at w g.known s Y old
      link = join 2 at w g.known One s Y old g.link rests.steady

      start : Mid m W (kn 0 0) old
      start = record {
        link = none_counted 2 at w g.known s s Y old link;
        flying = g.link.flying;
        index = g.link.index;
        links = g.link.links;
        same = rests.same;
        fine = fine_in_map at w s mac agg conv m W W (λ id. ⊥) (Flights s (at s) mac g.link.flying) (half s old).state.table (λ x. x)
            (λ id x. absurd x) rests.fine;
      }

      drains : AfterTick s NoneDue gives h.events h.replies old new h.acts
      drains = subst (λ n. AfterTick s (λ j. OfPort (λ p. is_due p ≡ false) (machines_of n (half s j).state)
          × (marker_due (half s j).state.table n ≡ None)) gives h.events h.replies old new h.acts) (port_there s at g.link.flying)
          (q.drained s g.link.index (cable at g.link.flying) (healthy_link 2 at w g.known One Nothing old g.link))

      end : Mid (m + 1) ⊥ (kn 1 1) new
      end = ticks_on May gives 1 s A (λ b. Mid (m + 1) ⊥ (kn 1 b)) Drained stages h.events h.replies old new 0 0 1 refl
          (still_turns s (IsNoMoveOf s agg conv) h.events 0 0 q.still (once_turns IsBetweenTicks s h.events true true (of_side s h.events h.ticks))) h.acts
          (after_left s One NoneDue gives true true h.events h.replies old new h.ticks h.acts one_left drains) start

  -- so many rounds on
  pub rounds_rest : (n : ℕ) (start new : WorldState) → 1 ≤ n → IsSome (next_identifier (half s new).state.table) → Rests 0 (Unit {0}) start
      → DrainingRounds s agg conv gives n start new → Rests n ⊥ new
  rounds_rest zero start new l left rests h = absurd (omega (arith, l))
  rounds_rest (suc zero) start new l left rests h =
      round_rests 0 (Unit {0}) start new (subst (λ j. IsDrainingRound s agg conv gives j new) h.1 h.2) left rests
  rounds_rest (suc (suc n)) start new l left rests h = let before = left_before (half s h.0).state.table (half s new).state.table
      (run_next s One gives true true h.2.round.events h.2.round.replies h.0 new h.2.round.ticks h.2.round.acts) left in
      subst (λ k. Rests k ⊥ new) (omega arith) (round_rests (suc n) ⊥ h.0 new h.2 left (rounds_rest (suc n) start h.0 (omega arith) before rests h.1))
