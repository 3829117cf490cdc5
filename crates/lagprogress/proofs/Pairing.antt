-- Cables of which both ends are SELECTED agree, however few aggregators and links there are.
use Rattle.lagprogress.proofs.Common.{Err, List, None, Ok, Option, Result, Some, ap, arith, inl, inr, refl, slice_get, subst, sym, true, ℕ, ◌+◌, ◌-◌}
use Rattle.lagprogress.proofs.Common.{◌∙◌, ◌≡◌, ◌≤◌, cases_Bool, none-some, same_Some, AllByRecursion, Choice, is_selected, Lacpdu, IsCabling, One}
use Rattle.lagprogress.proofs.Common.{Side, Two, peer, Machines, selected, receive_rows, RunsToRest, count_down, PortConfig, SystemFault, Received}
use Rattle.lagprogress.proofs.Common.{SystemPort, Carries, IsFrame, OnlyPortChangesBy, ProcessesLacpdu, Receive, ReceivesAt, Step, ThenSettles, Tick}
use Rattle.lagprogress.proofs.Common.{configured_numbers, none_enabled, MuxIsSettled, CallPromise, SystemState, aggregators_value, port_index}
use Rattle.lagprogress.proofs.Common.{port_numbers, processes_or_stays, rests, all-get, found_place, ports_rise, Reply, Algorithms, world_setup}
use Rattle.lagprogress.proofs.Common.{LinkState, WorldState, half, port_at, towards, HostEvent, Plays, IsTimed, OfEach, asked_each, no, AtPort}
use Rattle.lagprogress.proofs.Common.{at_number, AllHeard, EndsHealthyCable, SelectedPairsAgree, SelectedPairsComeUp, IsBetweenTicks, StepReplies}
use Rattle.lagprogress.proofs.Common.{IsLateRound, LateRounds, OldArrive, AtEnd, IsHealthyAt, OfPort, IsSteady}
use Rattle.lagprogress.proofs.SeveralTicks.{rounds_beside, rounds_once, Within, fits_at, known_at, none_counted}
use Rattle.lagprogress.proofs.EachRound.{played_on, EachAt, tick_keeps, played_split, played_steady, RoundKeeps, played_pass, same_on, each_between}
use Rattle.lagprogress.proofs.EachRound.{holds_once}
use Rattle.lagprogress.proofs.LateHearing.{counts_of, kept_of}
use Rattle.lagprogress.proofs.Quieting.{as_beside, IsCalm, calm_steady, calm_keeps, quiet_ports, asked_half, came_half, calm_between, leaves}
use Rattle.lagprogress.proofs.LateMeeting.{Fresh}
use Rattle.lagprogress.proofs.Knowing.{fits_fresh, fits_before, knows_late, stays_met, AtIt, Met}
use Rattle.lagprogress.proofs.Linked.{each_side, EndIs, Fits, IsGood, Link, arrival, at_end, end_here}
use Rattle.lagprogress.proofs.Bundling.{Awake, said, names, agree_still, heard_holds, LinksMeet, stands_in, sinks_in}
use Rattle.lagprogress.proofs.Choosing.{AllAsRead, AsRead, Chose, down_as_read, down_still, one_as_read, settles_choice, takes_as_read, zip_as_read}
use Rattle.lagprogress.proofs.Climbing.{ticks_still, Down, Ripe, Rising, down_settles, down_takes, down_ticks, rising_first}
use Rattle.lagprogress.proofs.EndFacts.{nothing_along}
use Rattle.lagprogress.proofs.Halves.{keeps_steady}
use Rattle.lagprogress.proofs.OneCable.{Comes, alone, cable, towards_there, ticks}
use Rattle.lagprogress.proofs.OneRound.{Nothing}
use Rattle.lagprogress.proofs.HostRound.{KeptBetween, MadeByTick, tick_one, between}
use Rattle.lagprogress.proofs.Lasting.{Alike, alike_keeps, alike_ticks, all_by_place, old_port, played_alike, played_before}
use Rattle.lagprogress.proofs.ComingUp.{AreSynced, agreed_synced, comes_to_agree, distributes, climbed_end, climbs}
use Rattle.slowpdu.specs.declared.pdu.Pdu.TheVariants as pdu
use Rattle.lagsystem.specs.declared.drive.Reply.TheVariants as answer
use Rattle.lagscript.specs.declared.event.Event.TheVariants as event

-- Selected stays what it is in the rounds of a world in which each end of a healthy cable knows its partner.

module _ (Holds : LinkState → WorldState → Type 0) (gives : Algorithms) (old : WorldState) (heard : AllHeard Holds old)
    (wakes : (i : ℕ) (l : LinkState) (h : IsHealthyAt i l old) → Awake old i l h) where
  -- of each healthy cable
  abbrev pub OfCables : ((i : ℕ) (l : LinkState) → IsHealthyAt i l old → Type 0) → Type 0
  OfCables X = (i : ℕ) (l : LinkState) (y : IsHealthyAt i l old) → X i l y

  abbrev pub AllFresh : WorldState → Type 0
  AllFresh j = OfCables (λ i l y. Fresh (λ t. port_at t l) (said old i l y) old j)

  abbrev Known : Type 0
  Known = OfCables (λ i l y. Side → ℕ)

  abbrev AllLinked : Known → WorldState → Type 0
  AllLinked kn j = OfCables (λ i l y. Link 1 (λ t. port_at t l) (said old i l y) (kn i l y) One Nothing j)

  abbrev AllFit : Known → Type 0
  AllFit kn = OfCables (λ i l y. Fits 1 (said old i l y) (kn i l y) × ((t : Side) → 1 ≤ kn i l y t))

  -- what stays of both systems
  pub record Stands (j : WorldState) : Type 0 where
    pub steady : IsSteady j
    pub config : (t : Side) → (half t j).state.ports ≡ (half t old).state.ports
    pub alike : (t : Side) (k : ℕ) (x : SystemPort) → slice_get (half t old).state.system_ports k ≡ Some x → EachAt (AtPort x.number (Alike x.port)) t j

  -- each port has this value of Selected
  abbrev pub AllChose : WorldState → WorldState → Type 0
  AllChose start j = (t : Side) (k : ℕ) (x : SystemPort) → slice_get (half t start).state.system_ports k ≡ Some x
      → EachAt (Chose x.number x.port.choice) t j

  config_kept : (e : HostEvent) (r : Reply) (i j : WorldState) → IsCalm e → StepReplies gives i e r j → ((t : Side) → (half t i).state.ports ≡ (half t old).state.ports)
      → (t : Side) → (half t j).state.ports ≡ (half t old).state.ports
  config_kept e r i j c h s t =
      calm_keeps (List PortConfig) (λ x. x.ports) (λ x a b. refl) (λ x a. refl) (λ x d. refl) gives e r i j c h t ∙ s t

  -- a port whose link is up ends a healthy cable
  pub on_cable : (t : Side) (j : WorldState) (k : ℕ) (z : SystemPort) → IsSteady old → Stands j → slice_get (half t j).state.system_ports k ≡ Some z
      → z.port.enabled ≡ true → EndsHealthyCable Holds t z.number old
  on_cable t j k z start s there up =
      let numbers : port_numbers (half t j).state.system_ports ≡ port_numbers (half t old).state.system_ports =
      (s.steady t).0.ports.same ∙ (ap configured_numbers (s.config t) ∙ sym (start t).0.ports.same) in
      let x = old_port (half t old).state.system_ports (half t j).state.system_ports k z numbers there in
      let like = all-get (λ (y : SystemPort). AtPort x.0.number (Alike x.0.port) y.number y.port) (half t j).state.system_ports k z there
      (s.alike t k x.0 x.1) x.2 in
      subst (λ n. EndsHealthyCable Holds t n old) (sym x.2) (heard t k x.0 x.1 (sym like.1 ∙ up))

  module _ (start : IsSteady old) where
    -- an item comes to a port
    came_choice : (kn : Known) (t : Side) (i j : WorldState) (k : ℕ) (l : LinkState) (n : ℕ) (c : Choice) → AllFit kn → AllLinked kn i → Stands i
        → slice_get i.links k ≡ Some l → Comes gives t k l i j → OfEach (Chose n c) (half t i).state.system_ports
        → OfEach (Chose n c) (half t j).state.system_ports
    came_choice kn t i j k l n c fits links s cabled m a = by_answer m.a m.promise
      where
        st : SystemState
        st = (half t i).state

        same : (half t j).state.system_ports ≡ (half t i).state.system_ports → OfEach (Chose n c) (half t j).state.system_ports
        same e = subst (OfEach (Chose n c)) (sym e) a

        took : (kk : ℕ) (z : SystemPort) (v : Lacpdu) → slice_get (half t i).state.system_ports kk ≡ Some z
            → ((p : Machines) → ProcessesLacpdu v z.port p → AsRead z.port p)
            → ThenSettles (OnlyPortChangesBy (Some kk) (ProcessesLacpdu v)) (half t i).state (half t j).state → OfEach (Chose n c) (half t j).state.system_ports
        took kk z v there read h = let y = h.1.0 in
            let is : y.0 ≡ z = same_Some y.0 z (sym y.2 ∙ there) in
            let one = subst (λ (x : SystemPort). AsRead x.port y.1) (sym is)
            (read y.1 (subst (λ (x : SystemPort). ProcessesLacpdu v x.port y.1) is y.3)) in
            settles_choice (half t i).state h.0 (half t j).state (s.steady t).0
            (subst (AllAsRead (half t i).state.system_ports) (sym y.4) (one_as_read (half t i).state.system_ports kk y.0 y.1 y.2 one))
            (ap aggregators_value h.1.1) h.2 n c a

        up_read : (kk : ℕ) (z : SystemPort) (v : Lacpdu) → slice_get (half t i).state.system_ports kk ≡ Some z → z.number ≡ port_at t l → z.port.enabled ≡ true
            → IsFrame m.item.octets (Carries (pdu.Lacpdu v)) → (p : Machines) → ProcessesLacpdu v z.port p → AsRead z.port p
        up_read kk z v there number up carried p does = let o = on_cable t i kk z start s there up in
            let at : Side → ℕ = λ u. port_at u o.link in
            let w = said old o.index o.link o.healthy in
            let link = links o.index o.link o.healthy in
            let fit = fits o.index o.link o.healthy in
            let end = (all-get (λ (y : SystemPort). AtPort (at t) (EndIs 1 w (kn o.index o.link o.healthy) One Nothing t) y.number y.port)
            (half t i).state.system_ports kk z there (link.ports t) (sym o.joins)).0 in
            let place = alone t link.index k at link.flying i.links l link.links cabled (sym number ∙ sym o.joins) in
            let is : l ≡ cable at link.flying = same_Some l (cable at link.flying)
            (sym cabled ∙ (ap (slice_get i.links) place ∙ link.links.there)) in
            let first = sym (ap (towards t) is ∙ towards_there t at link.flying) ∙ m.first in
            let good = subst (AllByRecursion (IsGood 1 w t)) first (link.good t) in
            takes_as_read (w (peer t)) v z.port p up ((good.0 v carried).0 (omega arith)) (end.1.1 (fit.1 t)).0 does

        by_index : (o : Received) (x : Option ℕ) → port_index (port_at t l) (half t i).state.system_ports ≡ x
            → CallPromise (gives t) (half t i).state (Receive (port_at t l) m.item.octets) (answer.Receive (Ok o)) (half t j).state
            → ReceivesAt x m.item.octets (half t i).state o (half t j).state → OfEach (Chose n c) (half t j).state.system_ports
        by_index o None e p r = absurd (none-some r.0 r.2)
        by_index o (Some kk) e p r = let number = found_place (port_at t l) (half t i).state.system_ports kk r.0 e r.2 in
            elim (cases_Bool r.0.port.enabled) [
              | inl up ↦ elim (arrival (gives t) (port_at t l) kk r.0 m.item.octets o (half t i).state (half t j).state e r.2 up p) [
                | inl x ↦ took kk r.0 x.0 r.2 (up_read kk r.0 x.0 r.2 number up x.1) x.2
                | inr x ↦ same x.1
              ]
              | inr down ↦ elim (processes_or_stays r.1 r.0.number (Some kk) (half t i).state o (half t j).state r.4) [
                | inl x ↦ took kk r.0 x.0 r.2 (λ p does. down_as_read x.0 r.0.port p down does) x.2
                | inr x ↦ same x
              ]
            ]

        by_answer : (a : Result Received SystemFault)
            → CallPromise (gives t) (half t i).state (Receive (port_at t l) m.item.octets) (answer.Receive a) (half t j).state
            → OfEach (Chose n c) (half t j).state.system_ports
        by_answer (Err fault) p = same (ap (λ (x : SystemState). x.system_ports) p.step.same)
        by_answer (Ok o) p = by_index o (port_index (port_at t l) (half t i).state.system_ports) refl p p.step

    -- within a round
    record Mid (kn : Known) (from j : WorldState) : Type 0 where
      links : AllLinked kn j
      stands : Stands j
      chose : AllChose from j

    chose_between : (kn : Known) (from : WorldState) → AllFit kn → (e : HostEvent) (r : Reply) (i j : WorldState) → IsBetweenTicks e
        → StepReplies gives i e r j → Mid kn from i → AllChose from j
    chose_between kn from fits (Plays (event.Emit n p)) r i j b h d t k x e = elim (asked_half gives n p r i j h t) [
      | inl same ↦ subst (λ (z : SystemState). OfEach (Chose x.number x.port.choice) z.system_ports) (sym same) (d.chose t k x e)
      | inr (a, step) ↦ asked_each (Chose x.number x.port.choice) (λ m q b f. b f) (gives t) p a (half t i).state (half t j).state step
          (d.chose t k x e)
    ]
    chose_between kn from fits (Plays (event.Deliver cn n)) r i j b h d t k x e = elim (came_half gives cn n r i j h t) [
      | inl same ↦ subst (λ (z : SystemState). OfEach (Chose x.number x.port.choice) z.system_ports) (sym same) (d.chose t k x e)
      | inr (q, l, there, comes) ↦ came_choice kn t i j q l x.number x.port.choice fits d.links d.stands there comes (d.chose t k x e)
    ]
    chose_between kn from fits e r i j b h d t k x there =
        subst (OfEach (Chose x.number x.port.choice)) (sym (quiet_ports gives e r i j b h t)) (d.chose t k x there)

    mid_between : (kn : Known) (from : WorldState) → AllFit kn → KeptBetween gives (Mid kn from)
    mid_between kn from fits e r i j b h d = record {
      links = λ x l y. between gives 1 (λ t. port_at t l) (said old x l y) (kn x l y) One Nothing (fits x l y).0
          (nothing_along (said old x l y One) (said old x l y (peer One)) (kn x l y One) 1) (λ q z. z) e r i j (leaves (λ t. port_at t l) e b) h
          (d.links x l y);
      stands = record {
        steady = calm_steady gives e r i j (calm_between e b) h d.stands.steady;
        config = config_kept e r i j (calm_between e b) h d.stands.config;
        alike = λ t k x there. each_between (AtPort x.number (Alike x.port)) (alike_keeps x.number x.port) t gives e r i j b h (d.stands.alike t k x there);
      };
      chose = chose_between kn from fits e r i j b h d;
    }

    -- a tick of system t
    tick_choice : (kn : Known) (i j : WorldState) (t : Side) (n : ℕ) (c : Choice)
        → Step (gives t) (half t i).state Tick answer.Tick (half t j).state → OfCables (λ x l y. 2 ≤ kn x l y t) → AllLinked kn i → Stands i
        → OfEach (Chose n c) (half t i).state.system_ports → OfEach (Chose n c) (half t j).state.system_ports
    tick_choice kn i j t n c h known links s a = settles_choice (half t i).state h.0 (half t j).state (s.steady t).0
        (zip_as_read (λ p q. RunsToRest receive_rows (count_down p) q) (half t i).state.system_ports h.0.system_ports
        (all_by_place (λ x. (q : Machines) → RunsToRest receive_rows (count_down x.port) q → AsRead x.port q) (half t i).state.system_ports read)
        h.1.0) (ap aggregators_value h.1.2) h.2 n c a
      where
        counted : (p q : Machines) → q ≡ count_down p → AsRead p q
        counted p q e = subst (AsRead p) (sym e) (refl, refl, refl, refl, refl)

        read : (k : ℕ) (x : SystemPort) → slice_get (half t i).state.system_ports k ≡ Some x → (q : Machines)
            → RunsToRest receive_rows (count_down x.port) q → AsRead x.port q
        read k x there q run = elim (cases_Bool x.port.enabled) [
          | inl up ↦ (let o = on_cable t i k x start s there up in
              let at : Side → ℕ = λ u. port_at u o.link in
              let w = said old o.index o.link o.healthy in
              let c = kn o.index o.link o.healthy in
              let end = (all-get (λ (y : SystemPort). AtPort (at t) (EndIs 1 w c One Nothing t) y.number y.port)
              (half t i).state.system_ports k x there ((links o.index o.link o.healthy).ports t) (sym o.joins)).0 in
              let l = known o.index o.link o.healthy in
              counted x.port q (ticks_still 1 (w t) (w (peer t)) (c t) x.port q (omega (arith, l)) end run))
          | inr down ↦ counted x.port q (down_still x.port q down (rests receive_rows x.port
              (all-get (λ (y : SystemPort). none_enabled receive_rows y.port ≡ true) (half t i).state.system_ports k x there (s.steady t).0.rested.0)) run)
        ]

    -- and what it makes of a cable: the one side knows its partner for a tick less
    ticked_one : (kn to : Known) (from : WorldState) (t : Side) → OfCables (λ x l y. 2 ≤ kn x l y t) → OfCables (λ x l y. to x l y t ≡ kn x l y t - 1)
        → OfCables (λ x l y. to x l y (peer t) ≡ kn x l y (peer t)) → MadeByTick gives t (Mid kn from) (Mid to from)
    ticked_one kn to from t known here there n r i j named step d = let k = ticks gives n t r i j named step in record {
      links = λ x l y. (tick_one gives n t 1 (λ u. port_at u l) (said old x l y) (kn x l y) (to x l y) One Nothing Nothing r i j named
          (record { own = here x l y; other = there x l y; some = λ e. absurd (omega (arith, e)) })
          (nothing_along (said old x l y One) (said old x l y (peer One)) (to x l y One) 1) (λ p q run rest a f z. z) (λ p f z. z) step
          (d.links x l y)).link;
      stands = record {
        steady = keeps_steady gives (event.Tick n 1) r i j step d.stands.steady;
        config = config_kept (Plays (event.Tick n 1)) r i j tt step d.stands.config;
        alike = λ u m x e. tick_keeps (AtPort x.number (Alike x.port)) (alike_keeps x.number x.port).settles (alike_ticks x.number x.port) u t
            gives n r i j named step (d.stands.alike u m x e);
      };
      chose = λ u m x e. each_side (λ v. EachAt (Chose x.number x.port.choice) v i → EachAt (Chose x.number x.port.choice) v j) t
          (λ a. tick_choice kn i j t x.number x.port.choice k.step known d.links d.stands a)
          (λ a. subst (λ (z : SystemState). OfEach (Chose x.number x.port.choice) z.system_ports) (sym k.peers) a) u (d.chose u m x e);
    }

    choice_round : (from i j : WorldState) → IsLateRound gives i j → AllFresh i → Stands i → AllChose from i → Stands j × AllChose from j
    choice_round from i j h fresh s chose =
        let end = holds_once gives One (λ a b. Mid (kn a b) from) (λ a b l. mid_between (kn a b) from (fits a b l))
        (λ b l. ticked_one (kn 0 b) (kn 1 b) from One (λ x l y. let m = long x l y One in omega (arith, m)) (λ x l y. omega arith) (λ x l y. refl))
        (λ a l. ticked_one (kn a 0) (kn a 1) from Two (λ x l y. let m = long x l y Two in omega (arith, m)) (λ x l y. omega arith) (λ x l y. refl))
        i j h (record {
          links = λ x l y. none_counted 1 (λ t. port_at t l) (said old x l y) (fresh x l y).known One One Nothing i (fresh x l y).link;
          stands = s;
          chose = chose;
        }) in
        (end.stands, end.chose)
      where
        kn : ℕ → ℕ → Known
        kn a b x l y = known_at (fresh x l y).known One a b

        long : OfCables (λ x l y. (t : Side) → 2 ≤ (fresh x l y).known t)
        long x l y t = (let at : Side → ℕ = λ u. port_at u l in knows_late at (said old x l y) (counts_of at old) (kept_of at old) 1 i (fresh x l y) t)

        fits : (a b : ℕ) → Within 1 a b → AllFit (kn a b)
        fits a b few x l y = let at : Side → ℕ = λ t. port_at t l in
            let w = said old x l y in
            let g = fresh x l y in
            let m = long x l y One in
            let n = long x l y Two in
            let o = few.0 in
            let p = few.1 in (
              fits_at 1 w g.known One 1 (fits_before at w (counts_of at old) (kept_of at old) (names old start x l y) (wakes x l y) 1 i g (omega arith))
                  (fits_fresh at w (counts_of at old) (kept_of at old) (names old start x l y) (wakes x l y) 1 i g (omega arith)) a b few,
              each_side (λ t. 1 ≤ kn a b x l y t) One (omega (arith, m, o)) (omega (arith, n, p)),
            )

    -- so many rounds
    pub choice_rounds : (n : ℕ) (from j : WorldState) → AllFresh from → Stands from → AllChose from from → LateRounds gives n from j
        → AllFresh j × Stands j × AllChose from j
    choice_rounds n from j fresh s chose h = played_on OldArrive gives (λ m k. AllFresh k × Stands k × AllChose from k) from (fresh, s, chose)
        (λ m a b q d. (let e = choice_round from a b q d.0 d.1 d.2 in (
          λ x l y. (let at : Side → ℕ = λ t. port_at t l in
              stays_met at (said old x l y) (counts_of at old) (kept_of at old) gives (names old start x l y) (wakes x l y) 1 a b (omega arith)
              (as_beside at OldArrive gives a b q) (d.0 x l y)),
          e.0,
          e.1,
        ))) n j h

-- a SELECTED port whose link is down

down_one : (t n : ℕ) → RoundKeeps (AtPort n (Down t n))
down_one t n = record {
  settles = record {
    mux = λ m ready p q h a e. (down_settles t).mux n ready p q h (a e);
    periodic = λ m p q h a e. (down_settles t).periodic n p q h (a e);
    select = λ m choice p none may a e. (down_settles t).select n choice p none may (a e);
  };
  sends = λ m p a e. a e;
  takes = λ m v p q h a e. down_takes t n v p q h (a e);
}

module _ (Holds : LinkState → WorldState → Type 0) (first : ℕ) (gives : Algorithms) (old : WorldState) (cabling : IsCabling (world_setup old).cables)
    (steady : IsSteady old) (heard : AllHeard Holds old) (k : LinksMeet Holds first gives) where
  pub wake : (i : ℕ) (l : LinkState) (h : IsHealthyAt i l old) → Awake old i l h
  wake i l h = k.wake old i l h (heard_holds Holds old cabling heard i l h)

  module _ (mid : WorldState) (h : LateRounds gives first old mid) where
    fresh : AllFresh Holds gives old heard wake mid
    fresh i l y = k.meet first old mid cabling steady i l y (heard_holds Holds old cabling heard i l y) (omega arith) h

    stands : Stands Holds gives old heard wake mid
    stands = record {
      steady = played_steady OldArrive gives first old mid steady h;
      config = same_on gives old mid (played_pass OldArrive gives first old mid h) (List PortConfig) (λ t. t.ports) (λ t a b. refl) (λ t a. refl)
          (λ t d. refl);
      alike = λ t k x e. played_alike OldArrive gives first old mid steady h t k x e;
    }

    chose : AllChose Holds gives old heard wake mid mid
    chose t k x e = at_number (λ p. p.choice ≡ x.port.choice) 0 (half t mid).state.system_ports k x
        (ports_rise (half t mid).state (stands.steady t).0.ports) e refl

    later : (m : ℕ) (j : WorldState) → LateRounds gives m mid j
        → AllFresh Holds gives old heard wake j × Stands Holds gives old heard wake j × AllChose Holds gives old heard wake mid j
    later m j r = choice_rounds Holds gives old heard wake steady m mid j fresh stands chose r

    -- an end that is SELECTED in the end was so
    was_chosen : (i : ℕ) (l : LinkState) (y : IsHealthyAt i l old) (m : ℕ) (new : WorldState) → LateRounds gives m mid new → (s : Side)
        → AtEnd (λ p. selected p ≡ true) s l new → AtIt (λ t. port_at t l) (said old i l y) s (λ p. is_selected p.choice ≡ true) mid
    was_chosen i l y m new r s sel = let at : Side → ℕ = λ t. port_at t l in
        let w = said old i l y in
        let g = fresh i l y in
        let d = later m new r in
        let e = end_here at w 1 g.known One Nothing mid g.link s in
        let f = end_here at w 1 (d.0 i l y).known One Nothing new (d.0 i l y).link s in
        let same = all-get (λ (z : SystemPort). Chose e.port.number e.port.port.choice z.number z.port) (half s new).state.system_ports f.index f.port
        f.there (d.2 s e.index e.port e.there) (f.number ∙ sym e.number) in
        let now = subst (OfPort (λ p. selected p ≡ true)) f.found sel in
        at_end at w 1 g.known s mid e g.link.steady (λ p. is_selected p.choice ≡ true) (sym (ap is_selected same) ∙ now)

    -- it climbs
    climb : (top : WorldState) → LateRounds gives 20 mid top → (i : ℕ) (l : LinkState) (y : IsHealthyAt i l old) → (s : Side)
        → AtIt (λ t. port_at t l) (said old i l y) s (λ p. is_selected p.choice ≡ true) mid
        → Met (λ t. port_at t l) (said old i l y) (counts_of (λ t. port_at t l) old) (kept_of (λ t. port_at t l) old) 1 top
        × AtIt (λ t. port_at t l) (said old i l y) s (Rising 0) top
    climb top more i l y s chosen = let at : Side → ℕ = λ t. port_at t l in
        climbs at (said old i l y) (counts_of at old) (kept_of at old) 1 gives (names old steady i l y) (wake i l y) (omega arith) (omega arith) s mid top
        (fresh i l y) chosen (rounds_beside at 1 gives 20 mid top (k.kind.are 20 mid top more))

    -- the SELECTED ports have risen
    ripe : (top : WorldState) → LateRounds gives 20 mid top → (s : Side) → AllByRecursion (λ (y : SystemPort). Ripe 0 y.port) (half s top).state.system_ports
    ripe top more s = all_by_place (λ y. Ripe 0 y.port) (half s top).state.system_ports each
      where
        each : (k : ℕ) (y : SystemPort) → slice_get (half s top).state.system_ports k ≡ Some y → Ripe 0 y.port
        each k y there = let st = (half s mid).state in
            let both = played_before OldArrive gives 20 mid top stands.steady more s in
            let x = old_port st.system_ports (half s top).state.system_ports k y both.numbers there in
            let same = all-get (λ (z : SystemPort). Chose x.0.number x.0.port.choice z.number z.port) (half s top).state.system_ports k y there
            ((later 20 top more).2 s k x.0 x.1) x.2 in
            λ sel. (let was : is_selected x.0.port.choice ≡ true = sym (ap is_selected same) ∙ sel in
            elim (cases_Bool x.0.port.enabled) [
              | inl up ↦ (let o = on_cable Holds gives old heard wake s mid k x.0 steady stands x.1 up in
                  let chosen = subst (λ n. EachAt (AtPort n (λ p. is_selected p.choice ≡ true)) s mid) (sym o.joins)
                  (at_number (λ p. is_selected p.choice ≡ true) 0 st.system_ports k x.0 (ports_rise st (stands.steady s).0.ports) x.1 was) in
                  (all-get (λ (q : SystemPort). AtPort (port_at s o.link) (Rising 0) q.number q.port) (half s top).state.system_ports k y there
                  (climb top more o.index o.link o.healthy s chosen).1 (x.2 ∙ sym o.joins)).1)
              | inr gone ↦ (let mux = (all-get (MuxIsSettled st.keys st.system_ports) st.system_ports k x.0 x.1 (stands.steady s).0.quiet.0).mux in
                  let timed = all-get (λ (z : SystemPort). IsTimed z.port) st.system_ports k x.0 x.1 (stands.steady s).1 in
                  let starts : Down 20 x.0.number x.0.port = λ e. (
                    λ agg stand. no (sym (ap is_selected stand) ∙ was),
                    λ c. (rising_first x.0.port mux timed c).1,
                  ) in
                  let sunk = sinks_in (λ t. AtPort x.0.number (Down t x.0.number)) (λ t. down_one t x.0.number)
                  (λ t n p q run c e. down_ticks t x.0.number p q run (c e)) 1 gives s mid top
                  (rounds_once IsBetweenTicks 1 gives (omega arith) 20 mid top more)
                  (at_number (Down 20 x.0.number) 0 st.system_ports k x.0 (ports_rise st (stands.steady s).0.ports) x.1 starts) in
                  (all-get (λ (q : SystemPort). AtPort x.0.number (Down 0 x.0.number) q.number q.port) (half s top).state.system_ports k y there
                  sunk x.2 ((both.alike k x.0 y x.1 there).1 ∙ gone)).1 sel)
            ])

  ups : (i : ℕ) (l : LinkState) (y : IsHealthyAt i l old) (n : ℕ) (new : WorldState) → first + 33 ≤ n → LateRounds gives n old new
      → ((s : Side) → AtEnd (λ p. selected p ≡ true) s l new) → AreSynced (λ s. port_at s l) (said old i l y) new
  ups i l y n new enough h sel = let at : Side → ℕ = λ s. port_at s l in
      let w = said old i l y in
      let m = n - first in
      let cut = played_split OldArrive gives m first n old new (omega (arith, enough)) h in
      let up = played_split OldArrive gives (m - 20) 20 m cut.0 new (omega (arith, enough)) cut.2 in
      let risen = λ (s : Side). climb cut.0 cut.1 up.0 up.1 i l y s (was_chosen cut.0 cut.1 i l y m new cut.2 s (sel s)) in
      agreed_synced gives at w old new 1 (omega arith) (comes_to_agree at w (counts_of at old) (kept_of at old) 1 gives (names old steady i l y) (wake i l y)
      (omega arith) (omega arith) (m - 20) up.0 new (omega (arith, enough)) (risen One).0
      (λ s. climbed_end at w (risen s).0.known s up.0 (ripe cut.0 cut.1 up.0 up.1 s) (risen s).0.link (risen s).1)
      (rounds_beside at 1 gives (m - 20) up.0 new (k.kind.are (m - 20) up.0 new up.2)))

module _ (Holds : LinkState → WorldState → Type 0) (first : ℕ) (gives : Algorithms) (k : LinksMeet Holds first gives) where
  pub selected_pairs_come_up : SelectedPairsComeUp LateRounds Holds (first + 33) gives
  selected_pairs_come_up n i l old new cabling steady heard y enough h sel =
      distributes (λ s. port_at s l) (said old i l y) new (ups Holds first gives old cabling steady heard k i l y n new enough h sel)

  pub selected_pairs_agree : SelectedPairsAgree LateRounds Holds (first + 33) gives
  selected_pairs_agree n i l old new sound steady heard y enough h sel =
      agree_still i l old new sound (stands_in 1 gives n i l old new sound.cabling y (k.kind.are n old new h)) y
      (ups Holds first gives old sound.cabling steady heard k i l y n new enough h sel)
