-- In a healthy round of hosts, an end that hears the other is told when the other is synchronized, or the other owes it an LACPDU.
use Rattle.lagprogress.proofs.Common.{Bool, List, Some, [], arith, false, inl, inr, length, refl, subst, suc, sym, true, ℕ, ◌+◌, ◌-◌, ◌∙◌, ◌∷◌, ◌≡◌}
use Rattle.lagprogress.proofs.Common.{◌≤◌, ◌⊎◌, cases_Bool, nat_tests, AllByRecursion, Lacpdu, Side, peer, Machines, partner_synchronized}
use Rattle.lagprogress.proofs.Common.{periodic_rows, receive_rows, AtRest, RunsToRest, after_sending, count_down, is_due, SystemPort, Carries}
use Rattle.lagprogress.proofs.Common.{IsFrame, OnlyPortChangesBy, ProcessesLacpdu, ThenSettles, SystemState, machines_of, Reply, Algorithms}
use Rattle.lagprogress.proofs.Common.{WorldSteps, side_of, ItemValue, WorldState, half, HostEvent, Plays, timeout_time, KeptBySettling, OfEach}
use Rattle.lagprogress.proofs.Common.{Tick-each, counts, AtPort, LeavesPorts, Clearing, StepReplies, IsArrivalAt, OfPort, AfterTicks}
use Rattle.lagprogress.proofs.SeveralTicks.{TickPasses, TickStages, TicksBeside, Within, fits_at, holds_ticks, known_at, none_counted, own_counted}
use Rattle.lagprogress.proofs.SeveralTicks.{own_at, peer_at, peer_counted, side_turns, ticked_by, ticks_on}
use Rattle.slowpdu.specs.declared.pdu.Pdu.TheVariants as pdu
use Rattle.lagsystem.specs.declared.drive.Reply.TheVariants as answer
use Rattle.lagscript.specs.declared.event.Event.TheVariants as event
use Rattle.lagprogress.proofs.Claims.{IsNamed, Owes, Owing, Wakeful, owes_ticks, owing_settles, wakeful_along, wakeful_ticks}
use Rattle.lagprogress.proofs.Climbing.{PartnerInSync, known_still, ticks_partner}
use Rattle.lagprogress.proofs.Delivering.{Heard, arrived_ports, deliver_link, came_to, arrives_moves}
use Rattle.lagprogress.proofs.EndFacts.{Along, IsEnd, Learnt, activity, nothing_along, short_timeout, ticks_end, wait_of, learnt_along, both_along}
use Rattle.lagprogress.proofs.HostRound.{between, KeptBeside, MadeByTick, healthy_link, learn_less, tick_one, two_other, two_there, both_kept}
use Rattle.lagprogress.proofs.HostRound.{both_made, Counts}
use Rattle.lagprogress.proofs.Linked.{asked_which, at_end, beside_link, end_with, of_end, with_ports, EndIs, Fits, Flying, IsGood, Link, each_both}
use Rattle.lagprogress.proofs.Linked.{each_map, each_side, end_here, gains_has, HasLacpdu, other_side, peer_twice, put_there, same_flying, both_at}
use Rattle.lagprogress.proofs.Linked.{has_on, other_ports, same_items}
use Rattle.lagprogress.proofs.OneCable.{Arrives, OnCable, cable, port_there, put, ticks, sent_frame}
use Rattle.lagprogress.proofs.OneRound.{Nothing, ask_idle, ask_peer, one_of_both, at_rest, forget, join}
use Rattle.lagprogress.proofs.Quieting.{LeavesEnds, ends_up, leaves_each, leaves_link}
use Rattle.lagprogress.proofs.Telling.{Bears, SaysIt, Tells, arrive_peer, ask_on, deliver_on, due_on, left_by, sync_settles, tells_map, back_other}
use Rattle.lagprogress.proofs.LateFlow.{FlyingIn, IsPlain, comes_in, flows, flying_first, flying_flows, flying_more}

module _ (gives : Algorithms) (d : ℕ) (at : Side → ℕ) (w : Side → Lacpdu) (s : Side) (there : 1 ≤ d)
    (named : (activity (w s) ≡ true) ⊎ IsNamed (w (peer s))) where
  abbrev u : Lacpdu
  u = w (peer s)

  abbrev v : Lacpdu
  v = w s

  abbrev Wakes : Machines → Type 0
  Wakes = Wakeful (w s) (w (peer s))

  abbrev pub OwesNow : WorldState → Type 0
  OwesNow j = OfEach (AtPort (at s) (Owes (w (peer s)))) (half s j).state.system_ports

  abbrev pub PeerIs : (Machines → Type 0) → WorldState → Type 0
  PeerIs X j = OfEach (AtPort (at (peer s)) X) (half (peer s) j).state.system_ports

  -- the end of s owes, or what is on its way says so, or X holds of its peer
  abbrev pub OnWay : (Side → ℕ) → (Machines → Type 0) → WorldState → Type 0
  OnWay c X j = (l : Link d at w c s (Wakeful (w s) (w (peer s))) j)
      × (OwesNow j ⊎ Tells (w (peer s)) (w s) (l.flying (peer s)) (PeerIs X j))

  along_wakes : (n : ℕ) → Along Wakes v u n d
  along_wakes n = wakeful_along v u n d there

  -- the end is wakeful, and stays so
  abbrev pub Woken : (Side → ℕ) → WorldState → Type 0
  Woken c j = Link d at w c s (Wakeful (w s) (w (peer s))) j

  -- and something more holds of it
  abbrev And : (Machines → Type 0) → Machines → Type 0
  And Z p = Z p × Wakeful (w s) (w (peer s)) p

  along_both : (Z : Machines → Type 0) (n : ℕ) → Along Z v u n d → Along (And Z) v u n d
  along_both Z n k = both_along Z Wakes v u n d k (along_wakes n)

  owes_tick : (t : Side) (c b : Side → ℕ) → Counts d t c b → (n : ℕ) (r : Reply) (i j : WorldState) → side_of n ≡ Some t
      → WorldSteps gives i (event.Tick n 1) r j → Woken c i → OwesNow i → OwesNow j
  owes_tick t c b known n r i j numbered h l owes = each_side (λ t. side_of n ≡ Some t → Counts d t c b → OwesNow j) s
      (λ numbered known. each_map (AtPort (at s) (Owing d v u (c s - 1))) (AtPort (at s) (Owes u)) (λ m p a e. (a e).2) (half s j).state.system_ports
      (Tick-each (λ m p. AtPort (at s) (EndIs d w c s Wakes s) m p × AtPort (at s) (Owes u) m p)
      (AtPort (at s) (Owing d v u (c s - 1))) (owing_settles d v u (c s - 1) (at s) there)
      (λ m p q run a e. (
        ticks_end d v u (c s) p q known.some run (a.0 e).0,
        wakeful_ticks v u p q named run ((a.0 e).1 refl),
        owes_ticks u p q run (a.1 e),
      )) (gives s) (half s i).state answer.Tick (half s j).state (ticks gives n s r i j numbered h).step
      (each_both (AtPort (at s) (EndIs d w c s Wakes s)) (AtPort (at s) (Owes u)) (half s i).state.system_ports (l.ports s) owes)))
      (λ numbered known. subst (λ (z : SystemState). OfEach (AtPort (at s) (Owes u)) z.system_ports)
      (sym (subst (λ x. (half x j).state ≡ (half x i).state) (peer_twice s) (ticks gives n (peer s) r i j numbered h).peers)) owes) t numbered known

  -- a tick of either system, if it leaves X
  on_tick : (X : Machines → Type 0) (t : Side) (c b : Side → ℕ) → Counts d t c b → (n : ℕ) (r : Reply) (i j : WorldState) → side_of n ≡ Some t
      → WorldSteps gives i (event.Tick n 1) r j → (PeerIs X i → PeerIs X j) → OnWay c X i → OnWay b X j
  on_tick X t c b known n r i j numbered h moves (l, m) =
      let k = tick_one gives n t d at w c b s Wakes Wakes r i j numbered known (along_wakes (b s))
      (λ p q run rest a f y. wakeful_ticks v u p q named run y) (λ p f y. y) h l in (
        k.link,
        elim m [
          | inl owes ↦ inl (owes_tick t c b known n r i j numbered h l owes)
          | inr tells ↦ inr (subst (λ (f : Side → List ItemValue). Tells u v (f (peer s)) (PeerIs X j)) (sym k.same)
              (tells_map u v (l.flying (peer s)) (PeerIs X i) (PeerIs X j) moves tells))
        ],
      )

  -- the tick of s does
  on_own : (X : Machines → Type 0) (c b : Side → ℕ) → Counts d s c b → MadeByTick gives s (OnWay c X) (OnWay b X)
  on_own X c b known n r i j numbered h o = on_tick X s c b known n r i j numbered h
      (λ y. subst (λ (z : SystemState). OfEach (AtPort (at (peer s)) X) z.system_ports) (sym (ticks gives n s r i j numbered h).peers) y) o

  module _ (X : Machines → Type 0) (keeps : KeptBySettling (AtPort (at (peer s)) X)) (sends : (p : Machines) → X p → X (after_sending p))
      (takes : (p : Machines) → partner_synchronized p ≡ true → X p) where
    leaves_on : (c : Side → ℕ) → Fits d w c → (e : HostEvent) (r : Reply) (i j : WorldState) → LeavesEnds at e → StepReplies gives i e r j → OnWay c X i
        → OnWay c X j
    leaves_on c fits e r i j b h (l, m) = let k = leaves_link gives e d at w c s Wakes r i j b h (along_wakes (c s)) l in
        let up = ends_up d at w c s Wakes i l in
        left_by gives d at w c s X there fits keeps sends takes i j l k.link
        (leaves_each gives e at r i j b h (Owing d v u (c s)) s (owing_settles d v u (c s) (at s) there) (up s))
        (leaves_each gives e at r i j b h X (peer s) keeps (up (peer s))) (k.grew (peer s)) m

    pub on_between : (c : Side → ℕ) → Fits d w c → KeptBeside at gives (OnWay c X)
    on_between c fits (Plays (event.Emit n p)) r i j b h m = ask_on gives d at w c s X there fits keeps sends takes n p r i j h m
    on_between c fits (Plays (event.Deliver cn n)) r i j b h m = deliver_on gives d at w c s X there fits keeps sends takes cn n r i j h m
    on_between c fits e r i j b h m = leaves_on c fits e r i j b h m

  -- nothing is asked of the peer

  abbrev pub Any : Machines → Type 0
  Any p = Unit {0}

  pub any_settles : KeptBySettling (AtPort (at (peer s)) Any)
  any_settles = grind (arith, nat_tests)

  pub all_any : (n : ℕ) (xs : List SystemPort) → OfEach (AtPort n Any) xs
  all_any n [] = tt
  all_any n (x ∷ xs) = (λ e. tt, all_any n xs)

  -- an Emit event: the end of s sends an LACPDU that is due, or Z still holds of it
  ask_sends : (c : Side → ℕ) (Z : Machines → Type 0) → Fits d w c → Along Z (w s) (w (peer s)) (c s) d → (n p : ℕ) (r : Reply) (i j : WorldState)
      → Link d at w c s (And Z) i → WorldSteps gives i (event.Emit n p) r j → Link d at w c s (And Z) j ⊎ ((o : OnWay c Any j) × Flying (o.0.flying (peer s)))
  ask_sends c Z fits along n p r i j l h = elim (asked_which gives n p l.index at l.flying r i j l.links h) [
    | inl (t, numbered, is) ↦ asked t numbered (subst (λ q. WorldSteps gives i (event.Emit n q) r j) is h)
    | inr b ↦ inl (beside_link gives (event.Emit n p) d at w c s (And Z) r i j (along_both Z (c s) along) l h b).link
  ]
    where
      woken : Woken c i
      woken = other_ports l (λ t p rest timed a. (a.0, λ f. (a.1 f).1))

      asked : (t : Side) → side_of n ≡ Some t → WorldSteps gives i (event.Emit n (at t)) r j
          → Link d at w c s (And Z) j ⊎ ((o : OnWay c Any j) × Flying (o.0.flying (peer s)))
      asked t numbered h = elim (one_of_both s t) [
        | inl e ↦ (let own = subst (λ q. side_of n ≡ Some q) e numbered in
            let step = subst (λ q. WorldSteps gives i (event.Emit n (at q)) r j) e h in
            let z = end_here at w d c s (And Z) i l s in
            elim (cases_Bool (is_due z.port.port)) [
              | inl due ↦ inr (due_on gives d at w c s Any there fits any_settles (λ p y. y) (λ p y. tt) n r i j own woken
                  (at_end at w d c s i z l.steady (λ p. is_due p ≡ true) due) step)
              | inr not ↦ inl (ask_idle gives n s d at w c (And Z) (And Z) r i j fits own (λ q rest timed a y f. y) l not step)
            ])
        | inr e ↦ inl (ask_peer gives n s d at w c (And Z) r i j fits (subst (λ q. side_of n ≡ Some q) e numbered) (along_both Z (c s) along) l
            (subst (λ q. WorldSteps gives i (event.Emit n (at q)) r j) e h))
      ]

  -- what each event keeps besides, before the peer has heard an LACPDU, and after
  pub record Extra (D E : WorldState → Type 0) : Type 0 where
    pub first : KeptBeside at gives D
    pub second : KeptBeside at gives E
    pub ticks_first : (t : Side) → MadeByTick gives t D D
    pub ticks_second : (t : Side) → MadeByTick gives t E E
    pub hears : (c : Side → ℕ) (i j : WorldState) (l : Link d at w c s (Wakeful (w s) (w (peer s))) i)
        (a : Arrives gives (peer s) at l.flying i j) (x : Lacpdu) → IsFrame a.item.octets (Carries (pdu.Lacpdu x)) → D j → D i → E j

  module _ (D E : WorldState → Type 0) (x : Extra D E) where
    abbrev W : ℕ
    W = wait_of (w (peer s))

    -- one of the first k items that are on the cable is an LACPDU of the end
    abbrev Sent : ℕ → (Side → ℕ) → WorldState → Type 0
    Sent k c j = ((o : OnWay c Any j) × FlyingIn k (o.0.flying (peer s))) × D j

    -- the other end has heard an LACPDU of the end of s, keeps it for so many ticks, and is told
    abbrev pub HasTold : (Side → ℕ) → ℕ → WorldState → Type 0
    HasTold c most j = (Link d at w c (peer s) (Learnt d (w (peer (peer s))) most) j × OnWay c PartnerInSync j) × E j

    abbrev pub Comes : ℕ → (Side → ℕ) → ℕ → WorldState → Type 0
    Comes k c most j = Sent k c j ⊎ HasTold c most j

    -- what comes to the peer is no LACPDU, or the peer has heard it, and is told
    peer_hears : (c : Side → ℕ) (most : ℕ) → most ≤ W → Fits d w c → (cn n : ℕ) (r : Reply) (i j : WorldState) → WorldSteps gives i (event.Deliver cn n) r j
        → (o : OnWay c Any i) → D i → (now : Link d at w c s Wakes j) → (k : Arrives gives (peer s) at o.0.flying i j) → now.flying ≡ k.now
        → IsPlain k.item ⊎ HasTold c most j
    peer_hears c most less fits cn n r i j h (l, m) da now k same = elim (came_to gives (peer s) d at w c s Wakes i j l k) [
      | inr none ↦ inl (λ q. none.0 q.0 q.1)
      | inl (v1, carries, settles) ↦ inr (took v1 carries settles)
    ]
      where
        took : (v1 : Lacpdu) → IsFrame k.item.octets (Carries (pdu.Lacpdu v1))
            → ThenSettles (OnlyPortChangesBy (Some (end_here at w d c s Wakes i l (peer s)).index) (ProcessesLacpdu v1)) (half (peer s) i).state
            (half (peer s) j).state → HasTold c most j
        took v1 carries settles = let z = end_here at w d c s Wakes i l (peer s) in
            let good = subst (AllByRecursion (IsGood d w (peer s))) k.first (l.good (peer s)) in
            let own = arrived_ports d at w c s Wakes (peer s) z.index z.port k.item.octets i j fits (along_wakes (c s)) l z.there z.number good.0
            (inl (v1, carries, settles)) in (
              (
                learn_less gives s d at w c W most j less (join d at w c s (peer s) _ j (forget d at w c s s Wakes j now)
                    (elim own.1 [ inl not ↦ absurd (not v1 carries) | inr heard ↦ heard there ])),
                arrive_peer gives d at w c s PartnerInSync there fits (sync_settles (at (peer s))) (λ p y. y) (λ p y. y) i j l k now same
                    (elim m [
                      | inl owes ↦ inl owes
                      | inr tells ↦ inr (subst (λ xs. Tells u v xs (PeerIs PartnerInSync i)) (sym k.first) (tells_map u v k.rest
                          (SaysIt u v k.item × (PeerIs Any i ⊎ Bears k.item)) (SaysIt u v k.item × (PeerIs PartnerInSync i ⊎ Bears k.item))
                          (λ a. (a.0, inr (v1, carries))) (subst (λ xs. Tells u v xs (PeerIs Any i)) k.first tells)))
                    ]),
              ),
              x.hears c i j l k v1 carries (x.first (Plays (event.Deliver cn n)) r i j tt h da) da,
            )

    any_between : (c : Side → ℕ) → Fits d w c → KeptBeside at gives (OnWay c Any)
    any_between c fits = on_between Any any_settles (λ p y. y) (λ p y. tt) c fits

    sync_between : (c : Side → ℕ) → Fits d w c → KeptBeside at gives (OnWay c PartnerInSync)
    sync_between c fits = on_between PartnerInSync (sync_settles (at (peer s))) (λ p y. y) (λ p y. y) c fits

    -- the first item came: it was heard, or one of the k behind it is an LACPDU
    pub first_came : (k : ℕ) (c : Side → ℕ) (most : ℕ) → most ≤ W → Fits d w c → (e : HostEvent) (r : Reply) (i j : WorldState) (o : OnWay c Any i)
        → IsArrivalAt (peer s) o.0.index e → StepReplies gives i e r j → D i → FlyingIn (suc k) (o.0.flying (peer s)) → Comes k c most j
    first_came k c most less fits e r i j o (number, numbered, is) h da f =
        elim (comes_in gives number o.0.index (peer s) at o.0.flying r i j numbered o.0.links step) [
          | inl y ↦ absurd (subst (FlyingIn (suc k)) y.0 f)
          | inr a ↦ came a
        ]
      where
        step : WorldSteps gives i (event.Deliver (suc o.0.index) number) r j
        step = subst (λ y. StepReplies gives i y r j) is h

        came : Arrives gives (peer s) at o.0.flying i j → Comes k c most j
        came a =
            let m = arrives_moves gives (suc o.0.index) number (peer s) d at w c s Wakes r i j fits (along_wakes (c s)) o.0 step a in
            let after = any_between c fits (Plays (event.Deliver (suc o.0.index) number)) r i j tt step o in
            elim (peer_hears c most less fits (suc o.0.index) number r i j step o da m.0 a m.1) [
              | inl plain ↦ inl (
                (
                  after,
                  subst (FlyingIn k) (sym (same_items a.index after.0.index at a.now after.0.flying j a.links after.0.links (peer s)
                      ∙ (back_other (peer s) a.a (put (peer s) a.rest o.0.flying) a.now a.back ∙ put_there (peer s) a.rest o.0.flying)))
                      (elim (subst (FlyingIn (suc k)) a.first f) [ inl q ↦ absurd (plain q) | inr q ↦ q ]),
                ),
                x.first (Plays (event.Deliver (suc o.0.index) number)) r i j tt step da,
              )
              | inr y ↦ inr y
            ]

    told_between : (c : Side → ℕ) (most : ℕ) → most ≤ W → Fits d w c → KeptBeside at gives (HasTold c most)
    told_between c most less fits = both_kept (both_kept (between gives d at w c (peer s) (Learnt d (w (peer (peer s))) most) fits
        (learnt_along (w (peer s)) (w (peer (peer s))) (c (peer s)) d most less there (fits (peer s)).3) (λ p y. y)) (sync_between c fits)) x.second

    pub comes_between : (k : ℕ) (c : Side → ℕ) (most : ℕ) → most ≤ W → Fits d w c → KeptBeside at gives (Comes k c most)
    comes_between k c most less fits e r i j b h (inr m) = inr (told_between c most less fits e r i j b h m)
    comes_between k c most less fits e r i j b h (inl ((o, f), da)) =
        let g = flows gives (peer s) o.0.index at o.0.flying r i j o.0.links e b h in
        let after = any_between c fits e r i j b h o in
        elim (flying_flows k g f) [
          | inl y ↦ inl (
            (after, subst (FlyingIn k) (sym (same_items g.index after.0.index at g.now after.0.flying j g.on after.0.links (peer s))) y),
            x.first e r i j b h da,
          )
          | inr (item, come, first) ↦ first_came k c most less fits e r i j o come h da (flying_more k (o.0.flying (peer s)) f)
        ]

    sent_tick : (t : Side) (k : ℕ) (c b : Side → ℕ) → Counts d t c b → MadeByTick gives t (Sent k c) (Sent k b)
    sent_tick t k c b known n r i j numbered h ((o, f), da) =
        let after = on_tick Any t c b known n r i j numbered h (λ y. all_any (at (peer s)) (half (peer s) j).state.system_ports) o in (
          (
            after,
            subst (FlyingIn k) (sym (same_items o.0.index after.0.index at o.0.flying after.0.flying j
                (subst (OnCable o.0.index at o.0.flying) (sym (ticks gives n t r i j numbered h).links) o.0.links) after.0.links (peer s))) f,
          ),
          x.ticks_first t n r i j numbered h da,
        )

    told_own : (c b : Side → ℕ) (most : ℕ) → Counts d s c b → most ≤ W → Fits d w b → MadeByTick gives s (HasTold c most) (HasTold b most)
    told_own c b most known less fits = let L = Learnt d (w (peer (peer s))) most in
        both_made gives s (both_made gives s (λ n r i j numbered h l. (tick_one gives n s d at w c b (peer s) L L r i j numbered known
        (learnt_along (w (peer s)) (w (peer (peer s))) (b (peer s)) d most less there (fits (peer s)).3)
        (λ p q run rest a f y. absurd (other_side s (sym f))) (λ p f y. y) h l).link)
        (on_own PartnerInSync c b known)) (x.ticks_second s)

    -- where the peer knows the end for longer, a tick leaves it told
    still_told : (m : ℕ) → 1 ≤ m - 1 → (n : ℕ) (r : Reply) (i j : WorldState) → side_of n ≡ Some (peer s) → WorldSteps gives i (event.Tick n 1) r j
        → PeerIs (IsEnd d (w (peer s)) (w (peer (peer s))) m) i → PeerIs PartnerInSync i → PeerIs PartnerInSync j
    still_told m some n r i j numbered h known y = let P = AtPort (at (peer s)) (IsEnd d (w (peer s)) (w (peer (peer s))) m) in
        let Q = AtPort (at (peer s)) PartnerInSync in
        Tick-each (λ q p. P q p × Q q p) Q (sync_settles (at (peer s)))
        (λ q p z run e f. ticks_partner d (w (peer s)) (w (peer (peer s))) m p z some run (e.0 f) (e.1 f)) (gives (peer s)) (half (peer s) i).state
        answer.Tick (half (peer s) j).state (ticks gives n (peer s) r i j numbered h).step (each_both P Q (half (peer s) i).state.system_ports known y)

    told_other : (c b : Side → ℕ) (most : ℕ) → Counts d (peer s) c b → 2 ≤ most → most ≤ W → Fits d w b
        → MadeByTick gives (peer s) (HasTold c most) (HasTold b (most - 1))
    told_other c b most known some less fits n r i j numbered h ((l, o), ea) = let q = w (peer (peer s)) in (
      (
        (tick_one gives n (peer s) d at w c b (peer s) (Learnt d q most) (Learnt d q (most - 1)) r i j numbered known
            (learnt_along (w (peer s)) q (b (peer s)) d (most - 1) (omega (arith, less)) there (fits (peer s)).3)
            (λ p z run rest a f y. (subst (Learnt d q (most - 1)) (sym (known_still q (most - 1) (count_down p) z (omega (arith, some))
            (counts q most 0 p y.0) run)) (counts q most 0 p y.0, y.1))) (λ p f y. absurd (other_side (peer s) f)) h l).link,
        on_tick PartnerInSync (peer s) c b known n r i j numbered h (still_told most (omega (arith, some)) n r i j numbered h
            (of_end l (peer s) (IsEnd d (w (peer s)) q most) (λ p rest timed a. (a.0.0, (a.1 refl).0, a.0.2)))) o,
      ),
      x.ticks_second (peer s) n r i j numbered h ea,
    )

    module _ (n : ℕ) (few : n + 1 ≤ 30) (c : Side → ℕ) (fits : Fits d w c) (then : Fits d w (ticked_by n c)) where
      abbrev kn : ℕ → ℕ → Side → ℕ
      kn = known_at c s

      abbrev NoneDue : WorldState → Type 0
      NoneDue j = OfPort (λ p. is_due p ≡ false) (machines_of (at s) (half s j).state)

      fit_at : (a b : ℕ) → Within n a b → Fits d w (kn a b)
      fit_at a b l = fits_at d w c s n fits then a b l

      waits_long : n + 1 ≤ W
      waits_long = grind (arith, nat_tests)

      pub comes_own : (k a b : ℕ) → Within n (suc a) b → MadeByTick gives s (Comes k (kn a b) (W - b)) (Comes k (kn (suc a) b) (W - b))
      comes_own k a b l m r i j numbered h y =
          grind (arith, nat_tests, sent_tick s k (kn a b) (kn (suc a) b), told_own (kn a b), own_counted d w c s n then a b l, fit_at (suc a) b l)

      -- the tick of the other system
      pub comes_other : (k a b : ℕ) → Within n a (suc b) → MadeByTick gives (peer s) (Comes k (kn a b) (W - b)) (Comes k (kn a (suc b)) (W - suc b))
      comes_other k a b l m r i j numbered h (inl y) =
          inl (sent_tick (peer s) k (kn a b) (kn a (suc b)) (peer_counted d w c s n then a b l) m r i j numbered h y)
      comes_other k a b l m r i j numbered h (inr y) = inr (subst (λ q. HasTold (kn a (suc b)) q j) (omega arith) (told_other (kn a b) (kn a (suc b)) (W - b)
          (peer_counted d w c s n then a b l) (let o = l.1 in omega (arith, o, waits_long)) (omega arith) (fit_at a (suc b) l) m r i j numbered h y))

      -- Z holds of the end of s; or an LACPDU of it is on the cable; or the other end has heard one, and is told
      abbrev pub Turn : ℕ → ℕ → (Machines → Type 0) → WorldState → Type 0
      Turn a b Z j = (Link d at w (kn a b) s (And Z) j × D j) ⊎ ((k : ℕ) × Comes k (kn a b) (W - b) j)

      turn_between : (Z : Machines → Type 0) (a b : ℕ) → Within n a b → Along Z v u (c s - a) d → KeptBeside at gives (Turn a b Z)
      turn_between Z a b l along e r i j q h (inr (k, y)) = inr (k, comes_between k (kn a b) (W - b) (omega arith) (fit_at a b l) e r i j q h y)
      turn_between Z a b l along e r i j q h (inl (y, da)) = by_event e q h
        where
          next : Along Z v u (kn a b s) d
          next = subst (λ q. Along Z v u q d) (sym (two_there s (c s - a) (c (peer s) - b))) along

          by_event : (e : HostEvent) → LeavesPorts at e → StepReplies gives i e r j → Turn a b Z j
          by_event (Plays (event.Emit n p)) q h = let db = x.first (Plays (event.Emit n p)) r i j q h da in
              elim (ask_sends (kn a b) Z (fit_at a b l) next n p r i j y h) [
                | inl k ↦ inl (k, db)
                | inr (o, f) ↦ inr (length (o.0.flying (peer s)), inl ((o, flying_first (o.0.flying (peer s)) f), db))
              ]
          by_event (Plays (event.Deliver cn n)) q h = inl (
            (deliver_link gives cn n d at w (kn a b) s (And Z) r i j (fit_at a b l) (along_both Z (kn a b s) next) y h).link,
            x.first (Plays (event.Deliver cn n)) r i j q h da,
          )
          by_event e q h = inl ((leaves_link gives e d at w (kn a b) s (And Z) r i j q h (along_both Z (kn a b s) next) y).link, x.first e r i j q h da)

      module _ (X V : ℕ → Machines → Type 0) (Z : Machines → Type 0) (k : TickPasses n X V Z (w s) (w (peer s)) (c s) d) where
        abbrev A : ℕ → ℕ → WorldState → Type 0
        A a b = Turn a b (X a)

        abbrev C : ℕ → WorldState → Type 0
        C b = Turn n b Z

        end_at : (a b : ℕ) (p : Machines) → IsEnd d (w s) (w (peer s)) (kn a b s) p → IsEnd d (w s) (w (peer s)) (c s - a) p
        end_at a b p y = subst (λ q. IsEnd d (w s) (w (peer s)) q p) (two_there s (c s - a) (c (peer s) - b)) y

        own : (a b : ℕ) → Within n (suc a) b → MadeByTick gives s (A a b) (A (suc a) b)
        own a b l m r i j numbered h (inr (q, y)) = inr (q, comes_own q a b l m r i j numbered h y)
        own a b l m r i j numbered h (inl (y, da)) = inl (
          at_rest d at w (kn (suc a) b) s (And (V (suc a))) (And (X (suc a))) j
              (λ p rest timed e y. (k.rests (suc a) l.0 p rest timed (end_at (suc a) b p e) y.0, y.1))
              (own_at gives s d at w c n (And (X a)) (And (V (suc a))) then a b l (along_both (V (suc a)) (c s - suc a) (k.ticked (suc a) l.0))
              (λ p q run rest e y. (k.ticks a l.0 p q run rest e y.0, wakeful_ticks v u p q named run y.1)) m r i j numbered h y),
          x.ticks_first s m r i j numbered h da,
        )

        others : (M : Machines → Type 0) (a b : ℕ) → Within n a (suc b) → Along M (w s) (w (peer s)) (c s - a) d
            → MadeByTick gives (peer s) (Turn a b M) (Turn a (suc b) M)
        others M a b l along m r i j numbered h (inr (q, y)) = inr (q, comes_other q a b l m r i j numbered h y)
        others M a b l along m r i j numbered h (inl (y, da)) = inl (
          peer_at gives s d at w c n (And M) then a b l (along_both M (c s - a) along) m r i j numbered h y,
          x.ticks_first (peer s) m r i j numbered h da,
        )

        rests : (b : ℕ) → b ≤ n → (j : WorldState) → NoneDue j → A n b j → C b j
        rests b few j none (inr z) = inr z
        rests b few j none (inl (l, da)) = let cc : Side → ℕ = kn n b in
            let e = end_here at w d cc s (And (X n)) j l s in
            let not : is_due e.port.port ≡ false = subst (OfPort (λ p. is_due p ≡ false)) e.found none in
            let now = of_end l s (λ p. is_due p ≡ false → EndIs d w cc s (And Z) s p) (λ p rest timed a free. (
              a.0,
              λ f. (k.asks p rest timed (end_at n b p a.0) (a.1 refl).0 free, (a.1 refl).1),
            )) in
            inl (
              with_ports l (each_side (λ t. OfEach (AtPort (at t) (EndIs d w cc s (And Z) t)) (half t j).state.system_ports) s
                  (at_end at w d cc s j e l.steady (EndIs d w cc s (And Z) s)
                  (end_with at w d cc s j e (λ p. is_due p ≡ false → EndIs d w cc s (And Z) s p) now not))
                  (of_end l (peer s) (EndIs d w cc s (And Z) (peer s)) (λ p rest timed a. (a.0, λ g. absurd (other_side s g))))),
              da,
            )

        stages : TickStages (LeavesPorts at) gives n s A C NoneDue
        stages = record {
          none = λ m b. b;
          first = λ a b l. turn_between (X a) a b l (k.waits a l.0);
          third = λ b l. turn_between Z n b (omega arith, l) k.asked;
          own = own;
          other_first = λ a b l. others (X a) a b l (k.waits a l.0);
          other_third = λ b l. others Z n b (omega arith, l) k.asked;
          rests = rests;
        }

        -- a round: Z holds of the end of s, or an LACPDU of it is on the cable, or the other end has heard one, and is told
        pub turns : {E : Clearing} (old new : WorldState) → Link d at w c s (X 0) old → OfEach (AtPort (at s) Wakes) (half s old).state.system_ports
            → TicksBeside n at E gives old new → D old → Turn n n Z new
        turns old new l wakes h da =
            let asked = subst (λ q. AfterTicks s (λ j. OfPort (λ p. is_due p ≡ false) (machines_of q (half s j).state)) n gives h.events h.replies old new
            h.acts) (port_there s at l.flying) (h.asked s l.index (cable at l.flying) (healthy_link d at w c s (X 0) old l)) in
            let both = both_at (at s) (X 0) Wakes (And (X 0)) (λ p a b. (a, b)) (half s old).state.system_ports
            (of_end l s (X 0) (λ p rest timed a. a.1 refl)) wakes in
            let start : A 0 0 old =
            inl (none_counted d at w c s s (And (X 0)) old (join d at w c s s (And (X 0)) old (forget d at w c s s (X 0) old l) both), da) in
            ticks_on (LeavesPorts at) gives n s A C NoneDue stages h.events h.replies old new 0 0 n (omega arith) (side_turns at n s h.events h.turns) h.acts
            asked start

      -- what it is told, or what is on its way, stays
      pub stays_on : {E : Clearing} (old new : WorldState) → OnWay (kn 0 0) PartnerInSync old → TicksBeside n at E gives old new → n + 1 ≤ c (peer s)
          → OnWay (kn n n) PartnerInSync new
      stays_on {E} old new told h known = holds_ticks E at gives n s (λ a b j. OnWay (kn a b) PartnerInSync j)
          (λ a b l. sync_between (kn a b) (fit_at a b l))
          (λ a b l. on_own PartnerInSync (kn a b) (kn (suc a) b) (own_counted d w c s n then a b l))
          (λ a b l m r i j numbered step o. on_tick PartnerInSync (peer s) (kn a b) (kn a (suc b)) (peer_counted d w c s n then a b l) m r i j numbered step
          (still_told (kn a b (peer s)) (subst (λ q. 1 ≤ q - 1) (sym (two_other s (c s - a) (c (peer s) - b))) (let f = l.1 in omega (arith, f, known)))
          m r i j numbered step (of_end o.0 (peer s) (IsEnd d (w (peer s)) (w (peer (peer s))) (kn a b (peer s))) (λ p rest timed a. a.0))) o) old new h told
