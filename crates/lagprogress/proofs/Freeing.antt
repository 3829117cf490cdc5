-- No conversation that is not moved stays held on a port of a healthy cable of a bundle.
use Rattle.lagprogress.proofs.Common.{List, None, Option, Some, [], ap, arith, inl, inr, length, refl, subst, suc, sym, zero, ℕ, ◌++◌, ◌+◌, ◌-◌, ◌∷◌}
use Rattle.lagprogress.proofs.Common.{◌≡◌, ◌≤◌, ◌⊎◌, nat_tests, AllByRecursion, IsCabling, One, Side, peer, value_of, Assignment, IsConversation}
use Rattle.lagprogress.proofs.Common.{assignment_of, SystemState, Event, Reply, Algorithms, WorldSteps, side_of, LinkState, WorldState, half, port_at}
use Rattle.lagprogress.proofs.Common.{AtPort, Turning, Turns, asks_turn, comes_turn, same_turns, ticks_turn, turns_through, EndsHealthyCable}
use Rattle.lagprogress.proofs.Common.{HasIdentifierLeft, IsNotHeldOn, NothingIsHeld, carrier_of, held_on, DrainingRounds, NoneIsHeldOnEndsByHosts}
use Rattle.lagprogress.proofs.Common.{NothingIsHeldByHosts, Clearing, HostRounds, IsBetweenTicks, NoneIsLeft, PlayedRounds, LateRounds, OldArrive}
use Rattle.lagprogress.proofs.Common.{AsksOrDelivers, IsHealthyAt, IsRound, Rounds, asks_all, ticks_of_both, IsSteady}
use Rattle.lagprogress.proofs.Lasting.{played_before, still_heard}
use Rattle.lagprogress.proofs.LateLoops.{host_rounds_are_late_rounds}
use Rattle.lagprogress.proofs.LateHearing.{counts_of, kept_of}
use Rattle.lagprogress.proofs.EachRound.{among_then, played_join, played_steady, played_pass, same_on}
use Rattle.lagprogress.proofs.Bundling.{LinksMeet, MeetsBy, Nowhere, alone, awake_of, said, ups_of, named_of}
use Rattle.lagprogress.proofs.Linked.{each_side, each_both, each_map, at_end, end_here, runs_all}
use Rattle.lagprogress.proofs.OneCable.{ticks}
use Rattle.lagprogress.proofs.Quieting.{asked_half, came_half}
use Rattle.lagprogress.proofs.Climbing.{PartnerInSync}
use Rattle.lagprogress.proofs.Emptying.{rounds_rest}
use Rattle.lagprogress.proofs.Holding.{Fine}
use Rattle.lagprogress.proofs.OneRound.{Nothing}
use Rattle.lagprogress.proofs.HostLoops.{draining_are_host, round_between, rounds_are_host_rounds, rounds_are_draining}
use Rattle.lagscript.specs.declared.event.Event.TheVariants as event

-- at first a marker may be wanted, and any response may be waited for
fine_first : (p : ℕ) (a : Assignment) → Fine p 0 (Unit {0}) (λ id. ⊥) a
fine_first p a = grind (arith, nat_tests)

-- in the end none is held on the port
fine_last : (p m : ℕ) → 30 ≤ m → (a : Assignment) → Fine p m ⊥ (λ id. ⊥) a → held_on a ≡ Some p → ⊥
fine_last p m l a h e = grind (arith, nat_tests)

-- a conversation was there before
was_there : (gives : Algorithms) (n : ℕ) (old new : WorldState) (s : Side) (g k : ℕ) → IsSteady old → HostRounds gives n old new
    → IsConversation (half s new).state.table g k → IsConversation (half s old).state.table g k
was_there gives n old new s g k steady h is =
    let keys = same_on gives old new (played_pass NoneIsLeft gives n old new h) ℕ (λ t. length t.keys) (λ t a b. refl) (λ t a. refl) (λ t d. refl) s in
    let cols = same_on gives old new (played_pass NoneIsLeft gives n old new h) ℕ (λ t. t.conversations) (λ t a b. refl) (λ t a. refl) (λ t d. refl) s in
    let later = played_steady NoneIsLeft gives n old new steady h in
    grind (arith, nat_tests, half)

module _ (E : Clearing) (Holds : LinkState → WorldState → Type 0) (Other : Side → ℕ → Type 0) (first : ℕ) (gives : Algorithms) (old : WorldState)
    (b : MeetsBy (PlayedRounds E gives) 1 Holds Other first gives old) where
  pub freed_by : (i : ℕ) (l : LinkState) (y : IsHealthyAt i l old) (n m : ℕ) (mid new : WorldState) (s : Side) (g k : ℕ) → first + 33 ≤ n
      → PlayedRounds E gives n old mid → 30 ≤ m → DrainingRounds s g k gives m mid new → HasIdentifierLeft (half s new).state
      → IsNotHeldOn (port_at s l) g k (half s new).state
  freed_by i l y n m mid new s q r enough h late rounds left is held = let at : Side → ℕ = λ t. port_at t l in
      let w = said old i l y in
      let up = ups_of (PlayedRounds E gives) 1 Holds Other first gives old b i l y n mid enough h in
      let g = up.fresh in
      let e = end_here at w 2 g.known One Nothing mid g.link s in
      let c = e.port.port.choice in
      let chosen = (e.is.2 (omega arith)).0 in
      let st = (half s mid).state in
      let choice = at_end at w 2 g.known s mid e g.link.steady (λ p. p.choice ≡ c) refl in
      let steady = each_map (λ q p. AtPort (at s) PartnerInSync q p × AtPort (at s) (λ p. p.choice ≡ c) q p)
      (AtPort (at s) (λ p. PartnerInSync p × (p.choice ≡ c))) (λ q p a f. (a.0 f, a.1 f)) st.system_ports
      (each_both (AtPort (at s) PartnerInSync) (AtPort (at s) (λ p. p.choice ≡ c)) st.system_ports (up.heard s) choice) in
      let was = was_there gives m mid new s q r (played_steady E gives n old mid b.steady h) (draining_are_host gives s q r m mid new rounds) is in
      let rests = rounds_rest at w (named_of (PlayedRounds E gives) 1 Holds Other first gives old b i l y)
      (awake_of (PlayedRounds E gives) 1 Holds Other first gives old b i l y) s st.system.mac q r c chosen gives (counts_of at old) (kept_of at old)
      m mid new (omega (arith, late)) left (record {
        cabling = subst IsCabling (sym (played_join E gives n old mid h)) b.cabling;
        fresh = g;
        steady = steady;
        same = record { own = refl; there = was };
        fine = fine_first (at s) (assignment_of st.table q r);
      }) rounds in
      fine_last (at s) m late (assignment_of (half s new).state.table q r) rests.fine held

-- the last of draining rounds are such rounds

pub draining_splits : (gives : Algorithms) (s : Side) (g k i m n : ℕ) (old new : WorldState) → n ≡ i + m → DrainingRounds s g k gives n old new
    → (mid : WorldState) × DrainingRounds s g k gives m old mid × DrainingRounds s g k gives i mid new
draining_splits gives s g k zero m n old new e h = (new, subst (λ j. DrainingRounds s g k gives j old new) (omega (arith, e)) h, refl)
draining_splits gives s g k (suc i) m zero old new e h = absurd (omega (arith, e))
draining_splits gives s g k (suc i) m (suc n) old new e h =
    let r = draining_splits gives s g k i m n old h.0 (omega (arith, e)) h.1 in (r.0, r.1, (h.0, r.2, h.2))

-- what carries a conversation in a round

-- the second is carried by the port of the first, or by none
abbrev pub Stays : Assignment → Assignment → Type 0
Stays a b = (carrier_of b ≡ None) ⊎ (carrier_of b ≡ carrier_of a)

stays_through : (a b d : Assignment) → Stays a b → Stays b d → Stays a d
stays_through a b d h k = grind (arith, nat_tests)

pub stays : Turning Stays
stays = grind (arith, nat_tests, stays_through)

abbrev WorldStays : Side → WorldState → WorldState → Type 0
WorldStays s i j = Turns Stays stays (half s i).state.table (half s j).state.table

world_same : (s : Side) (i j : WorldState) → (half s j).state ≡ (half s i).state → WorldStays s i j
world_same s i j e = same_turns Stays stays (half s i).state (half s j).state (ap (λ (t : SystemState). t.table) e)

world_through : (s : Side) (i j k : WorldState) → WorldStays s i j → WorldStays s j k → WorldStays s i k
world_through s i j k a b = turns_through Stays stays (half s i).state.table (half s j).state.table (half s k).state.table a b

-- the events of a healthy round
abbrev IsOfRound : Event → Type 0
IsOfRound (event.Tick n count) = count ≡ 1
IsOfRound e = AsksOrDelivers e

all_of_round : (es : List Event) → AllByRecursion AsksOrDelivers es → AllByRecursion IsOfRound es
all_of_round [] h = tt
all_of_round (event.Tick n count ∷ es) h = absurd h.0
all_of_round (e ∷ es) h = (h.0, all_of_round es h.1)

round_stays : (s : Side) (gives : Algorithms) (old new : WorldState) → IsRound gives old new → WorldStays s old new
round_stays s gives old new h = runs_all gives IsOfRound (WorldStays s old) one (ticks_of_both ++ (asks_all old.links ++ h.delivers)) h.replies old new
    (refl, (refl, all_of_round (asks_all old.links ++ h.delivers) (round_between old new gives h))) h.acts
    (world_same s old old refl)
  where
    ticked : (n : ℕ) (r : Reply) (i j : WorldState) → WorldSteps gives i (event.Tick n 1) r j → WorldStays s i j
    ticked n r i j h = let v = value_of (side_of n) _ h.0 in
        let k = ticks gives n v.0 r i j v.1 h in
        each_side (λ t. WorldStays t i j) v.0 (ticks_turn Stays stays (gives v.0) (half v.0 i).state (half v.0 j).state k.step)
        (world_same (peer v.0) i j k.peers) s

    asked : (n p : ℕ) (r : Reply) (i j : WorldState) → WorldSteps gives i (event.Emit n p) r j → WorldStays s i j
    asked n p r i j h = elim (asked_half gives n p r i j h s) [
      | inl same ↦ world_same s i j same
      | inr (a, step) ↦ asks_turn Stays stays (gives s) p a (half s i).state (half s j).state step
    ]

    delivered : (c n : ℕ) (r : Reply) (i j : WorldState) → WorldSteps gives i (event.Deliver c n) r j → WorldStays s i j
    delivered c n r i j h = elim (came_half gives c n r i j h s) [
      | inl same ↦ world_same s i j same
      | inr (k, l, there, m) ↦ comes_turn Stays stays (gives s) (port_at s l) m.item.octets m.a (half s i).state (half s j).state m.promise.step
    ]

    one : (e : Event) (r : Reply) (i j : WorldState) → IsOfRound e → WorldSteps gives i e r j → WorldStays s old i → WorldStays s old j
    one (event.Tick n count) r i j is h m =
        world_through s old i j m (ticked n r i j (subst (λ k. WorldSteps gives i (event.Tick n k) r j) is h))
    one (event.Emit n p) r i j is h m = world_through s old i j m (asked n p r i j h)
    one (event.Deliver c n) r i j is h m = world_through s old i j m (delivered c n r i j h)
    one e r i j is h m = absurd is

rounds_stay : (s : Side) (gives : Algorithms) (n : ℕ) (old new : WorldState) → Rounds gives n old new → WorldStays s old new
rounds_stay s gives zero old new h = world_same s old new (ap (λ (j : WorldState). (half s j).state) h)
rounds_stay s gives (suc n) old new h = world_through s old h.0 new (rounds_stay s gives n old h.0 h.1) (round_stays s gives h.0 new h.2)

pub carried_before : (a b : Assignment) (p : ℕ) → Stays a b → carrier_of b ≡ Some p → carrier_of a ≡ Some p
carried_before a b p k h = grind (arith, nat_tests)

pub held_carries : (a : Assignment) (p : ℕ) → held_on a ≡ Some p → carrier_of a ≡ Some p
held_carries a p e = grind (arith, nat_tests)

-- so all that is held is held on ends of healthy cables

-- the port of an assignment, if it has one, ends a healthy cable; but no end of one is its port
unheld : (Holds : LinkState → WorldState → Type 0) (s : Side) (old : WorldState) (o : Option ℕ) → ((p : ℕ) → o ≡ Some p → EndsHealthyCable Holds s p old)
    → ((i : ℕ) (l : LinkState) → IsHealthyAt i l old → o ≡ Some (port_at s l) → ⊥) → o ≡ None
unheld Holds s old None ends none = refl
unheld Holds s old (Some p) ends none =
    let it = ends p refl in absurd (none it.index it.link it.healthy (ap (λ (q : ℕ). Some q) (sym it.joins)))

module _ (Holds : LinkState → WorldState → Type 0) (first : ℕ) (gives : Algorithms) (meet : LinksMeet Holds first gives) where
  pub none_is_held_on_ends : NoneIsHeldOnEndsByHosts Holds (first + 33) gives
  none_is_held_on_ends n m i l old mid new s g k b y enough h late more left =
      freed_by OldArrive Holds Nowhere first gives old (alone LateRounds 1 Holds first gives meet old b) i l y n m mid new s g k enough h late more left

  -- and in healthy rounds, which are such rounds
  pub nothing_is_held : NothingIsHeld Holds (first + 63) gives
  nothing_is_held n old new s b carriers enough h left g k is =
      let cut = draining_splits gives s g k 30 (n - 30) n old new (omega (arith, enough)) (rounds_are_draining gives s g k n old new b.steady h) in
      unheld Holds s old (held_on (assignment_of (half s new).state.table g k)) ends (λ i l y e.
      none_is_held_on_ends (n - 30) 30 i l old cut.0 new s g k b y (omega (arith, enough)) (host_rounds_are_late_rounds gives (n - 30) old cut.0 b.cabling
      (draining_are_host gives s g k (n - 30) old cut.0 cut.1)) (omega arith) cut.2 left is e)
    where
      ends : (p : ℕ) → held_on (assignment_of (half s new).state.table g k) ≡ Some p → EndsHealthyCable Holds s p old
      ends p e =
          let up = carriers g k p (was_there gives n old new s g k b.steady (rounds_are_host_rounds gives n old new b.steady h) is)
          (carried_before (assignment_of (half s old).state.table g k) (assignment_of (half s new).state.table g k) p
          (rounds_stay s gives n old new h g k) (held_carries (assignment_of (half s new).state.table g k) p e)) in
          subst (λ q. EndsHealthyCable Holds s q old) up.3 (b.heard s up.0 up.1 up.2 up.4)

  -- so it is by rounds of hosts: some late rounds, and then such rounds
  pub nothing_is_held_by_hosts : NothingIsHeldByHosts Holds (first + 33) gives
  nothing_is_held_by_hosts n m old mid new s g k b enough h late more left carriers is =
      unheld Holds s old (held_on (assignment_of (half s new).state.table g k)) ends
      (λ i l y e. none_is_held_on_ends n m i l old mid new s g k b y enough h late more left is e)
    where
      before : LateRounds gives (m + n) old new
      before = among_then IsBetweenTicks OldArrive gives m n (m + n) old mid new refl h (host_rounds_are_late_rounds gives m mid new
          (subst IsCabling (sym (played_join OldArrive gives n old mid h)) b.cabling) (draining_are_host gives s g k m mid new more))

      ends : (p : ℕ) → held_on (assignment_of (half s new).state.table g k) ≡ Some p → EndsHealthyCable Holds s p old
      ends p e = let up = carriers g k p is (held_carries (assignment_of (half s new).state.table g k) p e) in
          subst (λ q. EndsHealthyCable Holds s q old) up.3
          (still_heard Holds s old new (played_before OldArrive gives (m + n) old new b.steady before s) b.heard up.0 up.1 up.2 up.4)
