-- A frame that a bundle is offered after its links came up arrives within one round.
use Rattle.lagprogress.proofs.Common.{Bool, List, None, Some, [], ap, arith, false, if◌then◌else◌, inl, inr, map, refl, slice_get, subst, suc, sym}
use Rattle.lagprogress.proofs.Common.{true, ℕ, ◌++◌, ◌+◌, ◌-◌, ◌∙◌, ◌∷◌, ◌≡◌, ◌≤◌, ◌⊎◌, true≢false, nat_tests, Vec, AggId, Choice, Selected}
use Rattle.lagprogress.proofs.Common.{is_selected, Lacpdu, One, Side, peer, MuxState, CollectingDistributing, Machines, same_mux_state, receive_rows}
use Rattle.lagprogress.proofs.Common.{count_down, Data_frame, IsFrame, MuxIsSettled, collecting, selected_aggregator, machines_of, port_index}
use Rattle.lagprogress.proofs.Common.{all-get, Event, Reply, Algorithms, WorldSteps, side_of, link_ends, ItemValue, LinkState, WorldState, accepts_at}
use Rattle.lagprogress.proofs.Common.{half, is_accepted, link_at, port_at, put_on_port, towards, put_ends, HostEvent, OfEach, AtPort, runs_keep}
use Rattle.lagprogress.proofs.Common.{takes_keep, Arrives, DisabledAreUnsynchronized, EachFrameArrivesByHosts, GetsPort, HandsUp, IsEventWhere}
use Rattle.lagprogress.proofs.Common.{SometimePlayed, TakesFrame, EndsHealthyCable, IsBundle, IsBetweenTicks, IsHostRound, RunReplies, StepReplies}
use Rattle.lagprogress.proofs.Common.{TickOnce, LateRounds, OldArrive, NothingInFlight, OfPort}
use Rattle.lagprogress.proofs.ArrivingLemmas.{deliver_hands_up, is_data, offer_gets_port}
use Rattle.lagprogress.proofs.Climbing.{PartnerInSync, distributes_now, partner_along, ticks_partner}
use Rattle.lagprogress.proofs.EachRound.{same_index, joins_kept, played_join, played_steady, RoundKeeps, few_done, each_on, played_pass}
use Rattle.lagprogress.proofs.EndFacts.{activity, Along}
use Rattle.lagprogress.proofs.Linked.{Fits, Link, end_here, EndIs, IsGood, place_kept, push_there}
use Rattle.lagprogress.proofs.Quieting.{leaves}
use Rattle.lagprogress.proofs.OneCable.{OnCable, cable, port_there, ticks, towards_there, sent_frame, placed, push, push_each, puts, takes_all}
use Rattle.lagprogress.proofs.OneRound.{ticked, beside_here, join}
use Rattle.lagprogress.proofs.HostRound.{between, KeptBetween, MadeByTick, of_side}
use Rattle.lagprogress.proofs.LateFlow.{Flows, flows, gain_at}
use Rattle.lagprogress.proofs.Knowing.{awake_peer, fits_fresh, fits_before}
use Rattle.lagprogress.proofs.Lasting.{played_before, all_by_place, still_heard}
use Rattle.lagprogress.proofs.LateHearing.{counts_of, kept_of}
use Rattle.lagprogress.proofs.Bundling.{LinksMeet, MeetsBy, Nowhere, alone, awake_of, said, ups_of, named_of}
use Rattle.lagprogress.proofs.Carrying.{Lapses, LapsesAt, distributes_up, lapse_settles, receive_lapses}
use Rattle.lagprogress.proofs.Halves.{keeps_timely}
use Rattle.lagscript.specs.declared.event.Event.TheVariants as event
use Rattle.lagworld.specs.declared.reply.Reply.TheVariants as reply
use Rattle.lagprogress.proofs.SeveralTicks.{done, fits_at, known_at, none_counted, own_at, peer_at}

-- How a frame that was sent on a healthy cable stays first on it through a round, until it is handed up.

-- the first item stays the first

abbrev pub First : Side → ItemValue → (Side → List ItemValue) → Type 0
First t item fl = (rest : List ItemValue) × (fl t ≡ item ∷ rest)

-- a port that distributes collects

collects_in : (m : MuxState) (c : Choice) → m ≡ CollectingDistributing → is_selected c ≡ true
    → (agg : AggId) × ((if same_mux_state CollectingDistributing m then selected_aggregator c else None) ≡ Some agg)
collects_in m (Selected agg) e h = (agg, ap (λ (n : MuxState). if same_mux_state CollectingDistributing n then Some agg else None) e)
collects_in m c e h = absurd (true≢false (sym h))

-- at some event of a run of ticks and what comes between, or not yet

until : (gives : Algorithms) (t : Side) (P : WorldState → Event → Reply → Type 0) (I : Bool → Bool → WorldState → Type 0)
    → ((a b : Bool) (e : HostEvent) (r : Reply) (i j : WorldState) → IsBetweenTicks e → StepReplies gives i e r j → I a b i → IsEventWhere P i e r ⊎ I a b j)
    → ((b : Bool) → MadeByTick gives t (I true b) (I false b)) → ((a : Bool) → MadeByTick gives (peer t) (I a true) (I a false))
    → (es : List HostEvent) (rs : List Reply) (i j : WorldState) (a b : Bool) → TickOnce t a b es → (run : RunReplies gives i es rs j) → I a b i
    → SometimePlayed P gives es rs i j run ⊎ I false false j
until gives t P I between own other [] [] i j a b h run m = grind (arith, nat_tests)
until gives t P I between own other (e ∷ es) (r ∷ rs) i j a b (inl (k, due, h)) run m =
    elim (until gives t P I between own other es rs run.0 j false b h run.2
    (own b k.0 r i run.0 k.1 (subst (λ x. StepReplies gives i x r run.0) k.2 run.1) (subst (λ x. I x b i) due m))) [ inl p ↦ inl (inr p) | inr n ↦ inr n ]
until gives t P I between own other (e ∷ es) (r ∷ rs) i j a b (inr (inl (k, due, h))) run m =
    elim (until gives t P I between own other es rs run.0 j a false h run.2
    (other a k.0 r i run.0 k.1 (subst (λ x. StepReplies gives i x r run.0) k.2 run.1) (subst (λ x. I a x i) due m))) [ inl p ↦ inl (inr p) | inr n ↦ inr n ]
until gives t P I between own other (e ∷ es) (r ∷ rs) i j a b (inr (inr h)) run m = elim (between a b e r i run.0 h.0 run.1 m) [
  | inl p ↦ inl (inl p)
  | inr k ↦ elim (until gives t P I between own other es rs run.0 j a b h.1 run.2 k) [ inl p ↦ inl (inr p) | inr n ↦ inr n ]
]
until gives t P I between own other es rs i j a b h run m = absurd run

-- the item is the first from system s on the cable of these ports; the ports that the cables join are those of the start
pub record OnItsWay (s : Side) (l : LinkState) (item : ItemValue) (start j : WorldState) : Type 0 where
  pub index : ℕ
  pub flying : Side → List ItemValue
  pub links : OnCable index (λ t. port_at t l) flying j.links
  pub first : First (peer s) item flying
  pub joins : map link_ends j.links ≡ map link_ends start.links

module _ (gives : Algorithms) (s : Side) (i : ℕ) (l : LinkState) (w : Side → Lacpdu) (c : Side → ℕ) (item : ItemValue) (start : WorldState)
    (awake : (t : Side) → (activity (w t) ≡ true) ⊎ (activity (w (peer t)) ≡ true)) (there : slice_get start.links i ≡ Some l)
    (fits : Fits 2 w c) (later : Fits 2 w (ticked c)) (plain : IsFrame item.octets Data_frame) where
  -- the port that the cable joins at system t
  abbrev pub at : Side → ℕ
  at t = port_at t l

  abbrev Ends : (Side → ℕ) → WorldState → Type 0
  Ends k j = Link 2 at w k (peer s) PartnerInSync j

  abbrev kn : ℕ → ℕ → Side → ℕ
  kn = known_at c (peer s)

  abbrev Flies : Bool → Bool → WorldState → Type 0
  Flies a b j = Ends (kn (done a) (done b)) j × OnItsWay s l item start j

  along : (n : ℕ) → Along PartnerInSync (w (peer s)) (w (peer (peer s))) n 2
  along n = partner_along (w (peer s)) (w (peer (peer s))) n 2 (omega arith) (awake_peer w awake (peer s))

  ends_on : (a b : Bool) → KeptBetween gives (Ends (kn (done a) (done b)))
  ends_on a b e r i j q = between gives 2 at w (kn (done a) (done b)) (peer s) PartnerInSync
      (fits_at 2 w c (peer s) 1 fits later (done a) (done b) (few_done a, few_done b)) (along (kn (done a) (done b) (peer s))) (λ q y. y) e r i j
      (leaves at e q)

  -- a tick leaves the cables
  ticked_way : (t : Side) (n : ℕ) (r : Reply) (old new : WorldState) → side_of n ≡ Some t → WorldSteps gives old (event.Tick n 1) r new
      → OnItsWay s l item start old → OnItsWay s l item start new
  ticked_way t n r old new hyp1 hyp2 hyp3 = grind (arith, nat_tests, ticks, map)

  own : (b : Bool) → MadeByTick gives (peer s) (Flies true b) (Flies false b)
  own b n r old new told h (e, f) = (
    own_at gives (peer s) 2 at w c 1 PartnerInSync PartnerInSync later 0 (done b) (omega arith, few_done b) (along (ticked c (peer s)))
        (λ p z run rest a y. ticks_partner 2 (w (peer s)) (w (peer (peer s))) (c (peer s) - 0) p z
        (let m = (later (peer s)).2 (omega arith) in omega (arith, m)) run a y) n r old new told h e,
    ticked_way (peer s) n r old new told h f,
  )

  other : (a : Bool) → MadeByTick gives (peer (peer s)) (Flies a true) (Flies a false)
  other a n r old new told h (e, f) = (
    peer_at gives (peer s) 2 at w c 1 PartnerInSync later (done a) 0 (few_done a, omega arith) (along (c (peer s) - done a)) n r old new told h e,
    ticked_way (peer (peer s)) n r old new told h f,
  )

  -- the port there collects
  hands_up : (k : Side → ℕ) (n : ℕ) (r : Reply) (old new : WorldState) → side_of n ≡ Some (peer s) → Ends k old → (f : OnItsWay s l item start old)
      → WorldSteps gives old (event.Deliver (suc f.index) n) r new → HandsUp (peer s) i item old (event.Deliver (suc f.index) n) r
  hands_up k n r old new named e f h = let t = peer s in
      let st = (half t old).state in
      let fl = f.flying in
      let z = end_here at w 2 k t PartnerInSync old e t in
      let mux = (all-get (MuxIsSettled st.keys st.system_ports) st.system_ports z.index z.port z.there (e.steady t).0.quiet.0).mux in
      let synced = z.is.2 (omega arith) in
      let now = distributes_now z.port.port mux synced (beside_here 2 at w k t PartnerInSync old e) in
      let agg = collects_in z.port.port.mux z.port.port.choice now synced.0 in
      let here : port_at t (cable at fl) ≡ at t = port_there t at fl in
      let first : towards t (cable at fl) ≡ item ∷ f.first.0 = towards_there t at fl ∙ f.first.1 in
      let up = deliver_hands_up gives n t f.index z.index (cable at fl) z.port agg.0 item f.first.0 r old new named f.links.there first
      (record {
        place = subst (λ m. port_index m st.system_ports ≡ Some z.index) (sym here) z.place;
        there = z.there;
        up = z.is.1.0;
      }) plain agg.1 h in
      let same : f.index ≡ i = same_index i f.index l fl start old there f.joins f.links in
      record {
        number = n;
        named = named;
        delivers = ap (λ k. event.Deliver (suc k) n) same;
        link = cable at fl;
        there = subst (λ k. slice_get old.links k ≡ Some (cable at fl)) same f.links.there;
        rest = f.first.0;
        first = first;
        agg = agg.0;
        collects = subst (λ m. OfPort (λ p. collecting p ≡ Some agg.0) (machines_of m st)) (sym here)
            (subst (OfPort (λ p. collecting p ≡ Some agg.0)) (sym z.found) agg.1);
        up = up.up;
      }

  -- what comes between ticks leaves it the first, adds an item, or hands it up
  between_on : (a b : Bool) (e : HostEvent) (r : Reply) (old new : WorldState) → IsBetweenTicks e → StepReplies gives old e r new → Flies a b old
      → IsEventWhere (HandsUp (peer s) i item) old e r ⊎ Flies a b new
  between_on a b e r old new is h (m, f) =
      let g = flows gives (peer s) f.index at f.flying r old new f.links e (leaves at e is) h in
      elim g.moves [
        | inl same ↦ inr (goes g (stays g.now same))
        | inr (inl (more, none, y)) ↦ inr (goes g (grows g.now more y))
        | inr (inr (inl (x, come, y))) ↦ inl (subst (λ z. IsEventWhere (HandsUp (peer s) i item) old z r) (sym come.2)
            (hands_up (kn (done a) (done b)) come.0 r old new come.1 m f (subst (λ z. StepReplies gives old z r new) come.2 h)))
        | inr (inr (inr (k, now))) ↦ inr (goes g (subst (First (peer s) item) (sym now)
            (elim (gain_at (peer s) (sent_frame k.a) f.flying k.now k.went) [ inl y ↦ stays k.now y | inr (more, of, y) ↦ grows k.now more y ])))
      ]
    where
      stays : (now : Side → List ItemValue) → now (peer s) ≡ f.flying (peer s) → First (peer s) item now
      stays now y = (f.first.0, y ∙ f.first.1)

      grows : (now : Side → List ItemValue) (more : ItemValue) → now (peer s) ≡ f.flying (peer s) ++ more ∷ [] → First (peer s) item now
      grows now more y = (f.first.0 ++ more ∷ [], y ∙ ap (λ xs. xs ++ more ∷ []) f.first.1)

      goes : (g : Flows gives (peer s) f.index at f.flying e old new) → First (peer s) item g.now → Flies a b new
      goes g first = (
        ends_on a b e r old new is h m,
        record {
          index = g.index;
          flying = g.now;
          links = g.on;
          first = first;
          joins = joins_kept at gives start.links e r old new (leaves at e is) h f.joins;
        },
      )

  -- a run in which each system ticks once and that leaves nothing on the cables hands it up
  pub in_run : (es : List HostEvent) (rs : List Reply) (old new : WorldState) → TickOnce One true true es → (run : RunReplies gives old es rs new)
      → NothingInFlight new → Ends c old → OnItsWay s l item start old → SometimePlayed (HandsUp (peer s) i item) gives es rs old new run
  in_run es rs old new turns run none e f = elim (until gives (peer s) (HandsUp (peer s) i item) Flies between_on own other es rs old new true true
      (of_side (peer s) es turns) run (none_counted 2 at w c (peer s) (peer s) PartnerInSync old e, f)) [
        | inl p ↦ p
        | inr (k, g) ↦ (let empty = none (peer s) g.index (cable at g.flying) g.links.there in
            absurd (nothing (g.flying (peer s)) (sym (towards_there (peer s) at g.flying) ∙ empty) g.first))
      ]
    where
      nothing : (xs : List ItemValue) → xs ≡ [] → (rest : List ItemValue) × (xs ≡ item ∷ rest) → ⊥
      nothing xs e (rest, f) = let x : [] ≡ item ∷ rest = sym e ∙ f in cc

-- the partner of a port in PORT_DISABLED is not synchronized

lapse_round : RoundKeeps LapsesAt
lapse_round = grind (arith, lapse_settles, takes_keep)

-- the cable after an offer

offer_link : (gives : Algorithms) (n : ℕ) (s : Side) (d : ℕ) (at : Side → ℕ) (w : Side → Lacpdu) (c : Side → ℕ) (x : Side)
    (Y : Machines → Type 0) (agg : AggId) (octets : Vec ℕ) (r : Reply) (old new : WorldState) → (g : GetsPort s agg octets.items old r new)
    → g.port ≡ at s → IsFrame g.item.octets Data_frame → WorldSteps gives old (event.Offer n agg octets) r new → (l : Link d at w c x Y old)
    → (k : Link d at w c x Y new) × (k.flying ≡ push (peer s) g.item l.flying)
offer_link gives n s d at w c x Y agg octets r old new g port plain h l =
    let steady = keeps_timely gives (event.Offer n agg octets) r old new h l.steady in
    let good : IsGood d w (peer s) g.item = λ v c. absurd (plain.1 c.0.1) in (
      record {
        steady = steady;
        flying = push (peer s) g.item l.flying;
        index = l.index;
        links = subst (OnCable l.index at (push (peer s) g.item l.flying)) (sym (g.sent ∙ ap (λ p. put_on_port s p g.item old.links) port))
            (puts s l.index at l.flying g.item old.links l.links);
        good = push_each (λ t. IsGood d w t) (peer s) g.item l.flying good l.good;
        place = λ t. ((l.place t).0, place_kept gives (event.Offer n agg octets) r old new h l.steady steady t (at t) ∙ (l.place t).1);
        ports = λ t. subst (OfEach (AtPort (at t) (EndIs d w c x Y t))) (sym (g.same t)) (l.ports t);
      },
      refl,
    )

accepted : (s : Side) (p i : ℕ) (at : Side → ℕ) (fl : Side → List ItemValue) (links : List LinkState) → OnCable i at fl links → at s ≡ p
    → is_accepted s p links ≡ true
accepted s p i at fl links c e = grind (arith, is_accepted, accepts_at, link_at, placed, takes_all)

module _ (Holds : LinkState → WorldState → Type 0) (first : ℕ) (gives : Algorithms) (old : WorldState) (b : IsBundle Holds old)
    (m : MeetsBy (LateRounds gives) 1 Holds Nowhere first gives old) where
  -- the healthy cable of a port that is up
  carrier : (n : ℕ) (s : Side) (agg : AggId) (octets : List ℕ) (r : Reply) (mid sent : WorldState) → DisabledAreUnsynchronized (half s old).state
      → LateRounds gives n old mid → (g : GetsPort s agg octets mid r sent) → EndsHealthyCable Holds s g.port old
  carrier n s agg octets r mid sent quiet h g = let st = (half s mid).state in
      let now = played_steady OldArrive gives n old mid b.steady h in
      let up = distributes_up st agg g.port (now s).0 (each_on gives old mid (played_pass OldArrive gives n old mid h) LapsesAt lapse_round
      (λ k p r run c. runs_keep Lapses receive_rows receive_lapses (count_down p) r run c) s
      (all_by_place (λ x. Lapses x.port) (half s old).state.system_ports quiet)) g.distributes in
      subst (λ p. EndsHealthyCable Holds s p old) up.3
      (still_heard Holds s old mid (played_before OldArrive gives n old mid b.steady h s) b.heard up.0 up.1 up.2 up.4)

  pub arrives : (n number : ℕ) (s : Side) (agg : AggId) (octets : Vec ℕ) (r : Reply) (mid sent new : WorldState) → DisabledAreUnsynchronized (half s old).state
      → first + 33 ≤ n → LateRounds gives n old mid → NothingInFlight mid → side_of number ≡ Some s → TakesFrame agg octets.items (half s mid).state
      → WorldSteps gives mid (event.Offer number agg octets) r sent → (q : IsHostRound gives sent new)
      → Arrives s agg octets.items mid r sent (λ P. SometimePlayed P gives q.events q.replies sent new q.acts)
  arrives n number s agg octets r mid sent new quiet enough h none told takes step q =
      let now = played_steady OldArrive gives n old mid b.steady h in
      let g = offer_gets_port gives number s agg octets r mid sent told (now s).0 takes step in
      let it = carrier n s agg octets.items r mid sent quiet h g in
      let i = it.index in
      let l = it.link in
      let y = it.healthy in
      let at : Side → ℕ = λ t. port_at t l in
      let w = said old i l y in
      let named = named_of (LateRounds gives) 1 Holds Nowhere first gives old m i l y in
      let awake = awake_of (LateRounds gives) 1 Holds Nowhere first gives old m i l y in
      let top = ups_of (LateRounds gives) 1 Holds Nowhere first gives old m i l y n mid enough h in
      let fresh = top.fresh in
      let start = join 2 at w fresh.known One (peer s) PartnerInSync mid fresh.link (top.heard (peer s)) in
      let plain = subst (λ o. IsFrame o Data_frame) (sym g.frame) (is_data octets.items takes.may.1) in
      let o = offer_link gives number s 2 at w fresh.known (peer s) PartnerInSync agg octets r mid sent g (sym it.joins) plain step start in
      let fl : Side → List ItemValue = push (peer s) g.item start.flying in
      let on : OnCable o.0.index at fl sent.links = subst (λ f. OnCable o.0.index at f sent.links) o.1 o.0.links in
      let empty = sym (towards_there (peer s) at start.flying) ∙ none (peer s) start.index (cable at start.flying) start.links.there in
      let alone : fl (peer s) ≡ g.item ∷ [] = push_there (peer s) g.item start.flying ∙ ap (λ xs. xs ++ g.item ∷ []) empty in
      let joins : map link_ends sent.links ≡ map link_ends old.links =
      ap (map link_ends) g.sent ∙ (put_ends s g.port g.item mid.links ∙ played_join OldArrive gives n old mid h) in
      let same : o.0.index ≡ i = same_index i o.0.index l fl old sent y.there joins on in
      let way : OnItsWay s l g.item old sent = record { index = o.0.index; flying = fl; links = on; first = ([], alone); joins = joins } in
      record {
        port = g.port;
        serial = g.serial;
        distributes = g.distributes;
        replied = g.replied ∙ ap (reply.Port g.port g.serial) (accepted s g.port start.index at start.flying mid.links start.links it.joins);
        index = i;
        link = cable at fl;
        there = subst (λ k. slice_get sent.links k ≡ Some (cable at fl)) same on.there;
        joins = port_there s at fl ∙ it.joins;
        item = g.item;
        frame = g.frame;
        flies = towards_there (peer s) at fl ∙ alone;
        up = in_run gives s i l w fresh.known g.item old awake y.there
            (fits_before at w (counts_of at old) (kept_of at old) named awake 2 mid fresh (omega arith))
            (fits_fresh at w (counts_of at old) (kept_of at old) named awake 2 mid fresh (omega arith)) plain
            q.events q.replies sent new q.ticks q.acts q.empties o.0 way;
      }

pub each_frame_arrives_by_hosts : (Holds : LinkState → WorldState → Type 0) (first : ℕ) (gives : Algorithms)
    → LinksMeet Holds first gives → EachFrameArrivesByHosts Holds (first + 33) gives
each_frame_arrives_by_hosts Holds first gives meet n number s agg octets r old mid sent new b quiet enough h none named takes step q =
    arrives Holds first gives old b (alone LateRounds 1 Holds first gives meet old b) n number s agg octets r mid sent new quiet enough h none named
    takes step q
