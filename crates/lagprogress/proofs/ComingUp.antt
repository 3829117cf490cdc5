-- How both ends of a cable come to distribute, round by round.
use Rattle.lagprogress.proofs.Common.{Bool, List, Some, [], ap, arith, false, inl, inr, is_some, map, not, option_map, refl, slice_get, subst, suc}
use Rattle.lagprogress.proofs.Common.{sym, true, ℕ, ◌+◌, ◌-◌, ◌∙◌, ◌∷◌, ◌≡◌, ◌≤◌, ◌⊎◌, AllByRecursion, unwrap_or, Party, is_selected, group_end}
use Rattle.lagprogress.proofs.Common.{group_of, individual, pair_of, same_group, group-itself, Lacpdu, party_of, One, Side, Two, peer}
use Rattle.lagprogress.proofs.Common.{CollectingDistributing, Machines, is_synchronized, mux_rows, same_mux_state, SystemPort, MuxIsSettled, group_at}
use Rattle.lagprogress.proofs.Common.{machines_of, all-get, Same, agreement_at, agreement_of, end_facts, is_stamp, same_groups, Algorithms, link_ends}
use Rattle.lagprogress.proofs.Common.{ItemValue, LinkState, WorldState, half, history_at, IsTimed, no, times_keep, AtPort, periodic_leaves, Sounds}
use Rattle.lagprogress.proofs.Common.{all_leave, LeavesPorts, IsBetweenTicks, OldArrive, Distributes, OfPort, IsTickedRound, TickedRounds, most_ticks}
use Rattle.lagprogress.proofs.SeveralTicks.{rounds_on, keeps_ticks, no_less, ticked_by, ticks_hold, holds_turns}
use Rattle.lagprogress.proofs.EachRound.{joins_kept, joins_tick, Passes}
use Rattle.lagprogress.proofs.Stamps.{Took-it, Present, Stamped}
use Rattle.lagprogress.proofs.Climbing.{Rising, PartnerInSync, keeps_selected, ticks_still, distributes_now, partner_along, rising_along}
use Rattle.lagprogress.proofs.Climbing.{rising_first, ticks_partner, ticks_rising, Ripe, climbed}
use Rattle.lagprogress.proofs.Knowing.{Leaves, GoingIn, AtIt, beside, able_in, awake_peer, mode, fits_in_round, fits_met, knows_in, settled}
use Rattle.lagprogress.proofs.Knowing.{stays_met_in, wakes_met}
use Rattle.lagprogress.proofs.Claims.{IsNamed, Owes}
use Rattle.lagprogress.proofs.EndFacts.{Along, IsEnd, Synced, activity, synced_mux, Learnt, wait_of}
use Rattle.lagprogress.proofs.LateHearing.{Whoever, ticks_stamp, AheadIn, ticks_near, counts_of, flush, kept_of}
use Rattle.lagprogress.proofs.LateFlow.{Past}
use Rattle.lagprogress.proofs.Linked.{Flying, IsGood, Link, each_map, peer_twice, same_items, EndPort, at_end, end_here, end_with, both_at, of_end}
use Rattle.lagprogress.proofs.OneRound.{Nothing, join}
use Rattle.lagprogress.proofs.Lasting.{raised}
use Rattle.lagprogress.proofs.Telling.{Bears, SaysIt, Tells, tells_map}
use Rattle.lagprogress.proofs.OneCable.{OnCable, cable}
use Rattle.lagtypes.proofs.GroupLemmas.{groups_from_pairs}
use Rattle.std.proofs.Math.Bool.{and_comm}

-- the ends agree

turned : (p q : Party) → same_group (group_of p q) (group_of q p) ≡ true
turned p q = let alone : individual p q ≡ individual q p = ap not (and_comm p.aggregatable q.aggregatable) in
    let same : group_of p q ≡ group_of q p = groups_from_pairs (pair_of p q) (pair_of q p)
    (inr (ap (λ b. group_end b p) alone, ap (λ b. group_end b q) alone)) in
    subst (λ g. same_group (group_of p q) g ≡ true) same (group-itself (group_of p q))

-- both ends are synchronized, know that of each other, and what they took last bears the present change counts

pub record AreSynced (at : Side → ℕ) (w : Side → Lacpdu) (j : WorldState) : Type 0 where
  pub known : Side → ℕ
  pub link : Link 2 at w known One Nothing j
  pub knows : (s : Side) → 1 ≤ known s
  pub heard : (s : Side) → AtIt at w s PartnerInSync j
  pub present : (s : Side) → Present at s j

module _ (at : Side → ℕ) (w : Side → Lacpdu) (j : WorldState) (g : AreSynced at w j) where
  now_distributes : (s : Side) (e : EndPort at w 2 g.known s j) → e.port.port.mux ≡ CollectingDistributing
  now_distributes s e = let st = (half s j).state in
      let mux = (all-get (MuxIsSettled st.keys st.system_ports) st.system_ports e.index e.port e.there (g.link.steady s).0.quiet.0).mux in
      distributes_now e.port.port mux (e.is.2 (omega arith)) (end_with at w 2 g.known s j e PartnerInSync (g.heard s))

  -- so both distribute
  pub distributes : (s : Side) → OfPort Distributes (machines_of (at s) (half s j).state)
  distributes s = let e = end_here at w 2 g.known One Nothing j g.link s in
      subst (OfPort Distributes) (sym e.found) (now_distributes s e, (e.is.2 (omega arith)).0)

  -- what is compared of an end
  record Compared (s : Side) : Type 0 where
    distributes : (end_facts (half s j) (at s)).distributes ≡ true
    present : (end_facts (half s j) (at s)).defaulted ≡ false
    taken : is_stamp (end_facts (half (peer s) j) (at (peer s))).count (end_facts (half s j) (at s)).taken ≡ true
    own : Party
    others : Party
    says : own ≡ party_of (w s).actor
    knows : others ≡ party_of (w (peer s)).actor
    group : (end_facts (half s j) (at s)).group ≡ Some (group_of own others)

  compared : ((s : Side) → is_some (history_at (half s j).histories (at s)) ≡ true) → (s : Side) → Compared s
  compared kept s = let e = end_here at w 2 g.known One Nothing j g.link s in
      let known = (e.is.1.1 (g.knows s)).0 in
      record {
        distributes = ap (λ o. unwrap_or (option_map (λ (x : Machines). same_mux_state CollectingDistributing x.mux) o) false) e.found
            ∙ ap (same_mux_state CollectingDistributing) (now_distributes s e);
        present = ap (λ o. unwrap_or (option_map (λ (x : Machines). x.defaulted) o) false) e.found ∙ known.present;
        taken = g.present s (kept s);
        own = e.port.port.party;
        others = party_of e.port.port.partner;
        says = e.is.0.0;
        knows = known.party;
        group = ap (λ o. option_map group_at o) e.found;
      }

  pub agrees_now : (i : ℕ) → ((x : ℕ) (fl : Side → List ItemValue) → OnCable x at fl j.links → x ≡ i)
      → ((s : Side) → is_some (history_at (half s j).histories (at s)) ≡ true) → agreement_at j (suc i) ≡ Some Same
  agrees_now i only kept = let a = compared kept One in
      let b = compared kept Two in
      let links = g.link in
      let groups : same_groups (end_facts j.one (at One)).group (end_facts j.two (at Two)).group ≡ true =
      ap (λ g. same_groups g (end_facts j.two (at Two)).group) a.group ∙ (ap (same_groups (Some (group_of a.own a.others))) b.group
      ∙ subst (λ x. same_group (group_of a.own a.others) (group_of b.own x) ≡ true) (a.says ∙ sym b.knows)
      (subst (λ x. same_group (group_of a.own a.others) (group_of x a.own) ≡ true) (a.knows ∙ sym b.says) (turned a.own a.others))) in
      ap (option_map (λ (l : LinkState). agreement_of (end_facts j.one l.one) (end_facts j.two l.two)))
      (subst (λ x. slice_get j.links x ≡ Some (cable at links.flying)) (only links.index links.flying links.links) links.links.there)
      ∙ ap Some (rw (a.distributes, b.distributes, a.present, b.present, b.taken, a.taken, groups) refl)

-- what each event and each tick keeps, rounds do
pub rounds_pass : (most : ℕ) (gives : Algorithms) (n : ℕ) (old new : WorldState) → TickedRounds IsBetweenTicks most gives n old new → Passes gives old new
rounds_pass most gives n old new h M kept ticks m = rounds_on IsBetweenTicks most gives (λ i j. M j) old m
    (λ i a b r y. holds_turns IsBetweenTicks gives r.0 One (λ x z. M) (λ x z k. kept) (λ x z k. ticks One) (λ x z k. ticks Two) r.3.events r.3.replies
    a b 0 0 r.3.turns r.3.acts y) n new h

-- the cables stand where they stood, and a port at an end of this one has a history as before
abbrev pub CableStands : (Side → ℕ) → WorldState → WorldState → Type 0
CableStands at old j = (map link_ends j.links ≡ map link_ends old.links) × Stamped 0 at (counts_of at old) (kept_of at old) j

pub stands_on : (at : Side → ℕ) (most : ℕ) (gives : Algorithms) (n : ℕ) (old mid new : WorldState) → CableStands at old mid
    → TickedRounds (LeavesPorts at) most gives n mid new → CableStands at old new
stands_on at most gives n old mid new first h = rounds_on (LeavesPorts at) most gives (λ m j. CableStands at old j) mid first (λ m i j r k. (
  keeps_ticks OldArrive at gives r.0 (λ z. map link_ends z.links ≡ map link_ends old.links) (joins_kept at gives old.links)
      (λ t. joins_tick gives old.links t) i j r.3 k.0,
  ticks_stamp 0 gives at (counts_of at old) (kept_of at old) r.0 i j r.3 k.1,
)) n new h

-- an end that owes an LACPDU sounds as soon as its transmit window lets it
pub owed : (at : Side → ℕ) (w : Side → Lacpdu) (c : Side → ℕ) (j : WorldState) (l : Link 2 at w c One Nothing j) (s : Side) → 1 ≤ c s
    → AtIt at w s (Owes (w (peer s))) j → AtIt at w s (Sounds (mode at w s) 11) j
owed at w c j l s heard owes = both_at (at s) (λ p. IsTimed p × IsEnd 2 (w s) (w (peer s)) (c s) p) (Owes (w (peer s))) (Sounds (mode at w s) 11)
    (λ p a o. (inl (o (a.1.2 (omega arith), (a.1.1.1 heard).0.party)), all_leave true p.ages a.0.3)) (half s j).state.system_ports
    (of_end l s (λ p. IsTimed p × IsEnd 2 (w s) (w (peer s)) (c s) p) (λ p rest timed a. (timed, a.0))) owes

-- a SELECTED end begins to climb
pub rises_first : (at : Side → ℕ) (w : Side → Lacpdu) (c : Side → ℕ) (j : WorldState) → Link 1 at w c One Nothing j → (s : Side)
    → AtIt at w s (λ p. is_selected p.choice ≡ true) j → AtIt at w s (Rising 20) j
rises_first at w c j l s chosen = let e = end_here at w 1 c One Nothing j l s in
    let st = (half s j).state in
    at_end at w 1 c s j e l.steady (Rising 20) (rising_first e.port.port
    (all-get (MuxIsSettled st.keys st.system_ports) st.system_ports e.index e.port e.there (l.steady s).0.quiet.0).mux
    (all-get (λ (y : SystemPort). IsTimed y.port) st.system_ports e.index e.port e.there (l.steady s).1)
    (end_with at w 1 c s j e (λ p. is_selected p.choice ≡ true) chosen))

-- so an end is synchronized that has risen, where the SELECTED ports of its system have
pub climbed_end : (at : Side → ℕ) (w : Side → Lacpdu) (c : Side → ℕ) (s : Side) (j : WorldState)
    → AllByRecursion (λ (y : SystemPort). Ripe 0 y.port) (half s j).state.system_ports → Link 1 at w c One Nothing j → AtIt at w s (Rising 0) j
    → AtIt at w s Synced j
climbed_end at w c s j ripe l rising = let e = end_here at w 1 c One Nothing j l s in
    at_end at w 1 c s j e l.steady Synced (climbed (half s j).state e.index e.port (l.steady s).0 e.there ripe
    (end_with at w 1 c s j e (Rising 0) rising))

-- a synchronized end stays so

pub synced_along : (v u : Lacpdu) (c d : ℕ) → 1 ≤ d → 1 ≤ c → Along Synced v u c d
synced_along v u c d there known = record {
  mux = λ ready p q h y. times_keep Synced (mux_rows ready) (synced_mux ready) h.0 p q h.1 y;
  periodic = λ p q h a y. periodic_leaves Synced p q h y;
  select = λ choice p none y. absurd (no (sym none ∙ y.0));
  takes = λ x p q e awake h a y. (let k = keeps_selected u x p q (e.0 there) (a.1.1 known).0 h in
      (ap is_selected k.0 ∙ y.0, ap is_synchronized k.1 ∙ y.1));
}

-- the last LACPDU on the way says so, or there is none
pub tells_which : (u v : Lacpdu) (xs : List ItemValue) (H : Type 0) → Tells u v xs H → Flying xs ⊎ H
tells_which u v [] H h = inr h
tells_which u v (x ∷ xs) H h = elim (tells_which u v xs (SaysIt u v x × (H ⊎ Bears x)) h) [
  | inl f ↦ inl (inr f)
  | inr (says, inl y) ↦ inr y
  | inr (says, inr b) ↦ inl (inl b)
]

-- What the other end knows outlasts the next LACPDU by so many ticks, where a round has so many at the most.
abbrev pub slack_of : ℕ → ℕ
slack_of ticks = 13 - (ticks + ticks)

module _ (at : Side → ℕ) (w : Side → Lacpdu) (counts : Side → ℕ) (kept : Side → Bool) (ticks : ℕ) where
  -- both ends know each other, and so they go on, in rounds of so many ticks at the most
  abbrev pub Going : (d most n : ℕ) → WorldState → Type 0
  Going d most n j = GoingIn at w counts kept ticks (slack_of ticks) 0 d most n j

  -- Each end hears that the other is in sync, since it is told, or an LACPDU that says so is on its way, or is owed.

  abbrev Tellings : Side → ℕ → WorldState → Type 0
  Tellings s n j = ((m : ℕ) × (ticks ≤ m) × (n + m ≤ 10 + ticks + ticks) × AheadIn ticks at w s (mode at w s) m j)
      ⊎ AtIt at w (peer s) PartnerInSync j

  record Agrees (n : ℕ) (j : WorldState) : Type 0 where
    fresh : Going 2 0 0 j
    tells : (s : Side) → Tellings s n j

  -- both are synchronized, and know that of each other
  pub record AgreesIn (j : WorldState) : Type 0 where
    pub fresh : Going 2 0 0 j
    pub heard : (t : Side) → AtIt at w t PartnerInSync j

  module _ (gives : Algorithms) (named : (t : Side) → IsNamed (w t)) (awake : (s : Side) → (activity (w s) ≡ true) ⊎ (activity (w (peer s)) ≡ true))
      (one : 1 ≤ ticks) (small : ticks ≤ most_ticks) where
    abbrev Round : WorldState → WorldState → Type 0
    Round old new = IsTickedRound (LeavesPorts at) ticks gives old new

    more : 1 ≤ slack_of ticks
    more = omega (arith, small)

    room : Leaves at w counts kept gives ticks (slack_of ticks)
    room true = omega (arith, small)
    room false = omega (arith, small)

    goes_on : {most n : ℕ} (d : ℕ) (old new : WorldState) → 1 ≤ d → Round old new → Going d most n old → Going d most (n + 1) new
    goes_on {most} {n} d old new there (k, some, less, h) g = stays_met_in at w counts kept gives named ticks (slack_of ticks) k room some less
        (omega (arith, less, small)) awake d most n old new there more h g

    met_on : (d : ℕ) (old new : WorldState) → 1 ≤ d → Round old new → Going d 0 0 old → Going d 0 0 new
    met_on d old new there r g =
        settled at w counts kept ticks (slack_of ticks) 0 d 0 1 0 0 new one (omega arith) (goes_on d old new there r g)

    -- an end that knows that the other is in sync goes on so
    hears_on : (old new : WorldState) → Going 2 0 0 old → Round old new → (t : Side) → AtIt at w t PartnerInSync old → AtIt at w t PartnerInSync new
    hears_on old new g (k, some, less, h) t y = let l = knows_in at w counts kept ticks (slack_of ticks) 2 old g more t in
        beside at w 2 (ticked_by k g.known) t PartnerInSync new (ticks_hold gives k t 2 at w g.known (λ a. PartnerInSync) old new
        (fits_met at w counts kept named awake ticks (slack_of ticks) 2 old g more (omega arith))
        (fits_in_round at w counts kept named awake ticks (slack_of ticks) 2 old g more (omega arith) k less)
        (λ a q. partner_along (w t) (w (peer t)) (g.known t - a) 2 (omega arith) (awake_peer w awake t))
        (λ a q p r run rest e x. ticks_partner 2 (w t) (w (peer t)) (g.known t - a) p r (omega (arith, l, q, less)) run e x)
        (λ a p x. x) (join 2 at w g.known One t PartnerInSync old g.link y) h)

    -- a SELECTED end climbs in 20 rounds, by the ticks that were
    module _ (s : Side) where
      rises_in : {most n : ℕ} (t : ℕ) (old new : WorldState) → Going 1 most n old → (r : Round old new) → AtIt at w s (Rising t) old
          → AtIt at w s (Rising (t - r.0)) new
      rises_in t old new g (k, some, less, h) rising = let l = knows_in at w counts kept ticks (slack_of ticks) 1 old g more s in
          beside at w 1 (ticked_by k g.known) s (Rising (t - k)) new (ticks_hold gives k s 1 at w g.known (λ a. Rising (t - a)) old new
          (fits_met at w counts kept named awake ticks (slack_of ticks) 1 old g more (omega arith))
          (fits_in_round at w counts kept named awake ticks (slack_of ticks) 1 old g more (omega arith) k less)
          (λ a q. rising_along (w s) (w (peer s)) (g.known s - a) 1 (t - a) (omega arith) (omega (arith, l, q, less)))
          (λ a q p r run rest e y. subst (λ i. Rising i r) (omega arith)
          (ticks_rising 1 (w s) (w (peer s)) (g.known s - a) (t - a) p r (omega (arith, l, q, less)) run e y))
          (λ a p y. y) (join 1 at w g.known One s (Rising (t - 0)) old g.link (subst (λ i. AtIt at w s (Rising i) old) (sym (no_less t)) rising)) h)

      abbrev Climbs : ℕ → WorldState → Type 0
      Climbs n j = (t : ℕ) × (n ≤ t) × Going 1 12 n j × AtIt at w s (Rising (20 - t)) j

      climbs_on : (n : ℕ) (old new : WorldState) → Round old new → Climbs n old → Climbs (n + 1) new
      climbs_on n old new (k, some, less, h) (t, l, g, rising) = (
        t + k,
        omega (arith, l, some),
        goes_on 1 old new (omega arith) (k, some, less, h) g,
        subst (λ i. AtIt at w s (Rising i) new) (omega arith) (rises_in (20 - t) old new g (k, some, less, h) rising),
      )

      pub climbs : (mid top : WorldState) → Going 1 12 0 mid → AtIt at w s (λ p. is_selected p.choice ≡ true) mid
          → TickedRounds (LeavesPorts at) ticks gives 20 mid top → Going 1 0 0 top × AtIt at w s (Rising 0) top
      climbs mid top g chosen h =
          let c = rounds_on (LeavesPorts at) ticks gives Climbs mid (0, omega arith, g, rises_first at w g.known mid g.link s chosen) climbs_on 20 top h in
          let l = c.1 in (
            settled at w counts kept ticks (slack_of ticks) 0 1 12 20 0 0 top one (omega arith) c.2,
            subst (λ t. AtIt at w s (Rising t) top) (omega (arith, l)) c.3,
          )

    -- what was told is told, and an LACPDU that says so is nearer
    agrees_on : (n : ℕ) (old new : WorldState) → Round old new → Agrees n old → Agrees (n + 1) new
    agrees_on n old new (k, some, less, h) c =
        record { fresh = met_on 2 old new (omega arith) (k, some, less, h) c.fresh; tells = λ s. tells s (c.tells s) }
      where
        tells : (s : Side) → Tellings s n old → Tellings s (n + 1) new
        tells s (inl (m, far, soon, y)) = let g = c.fresh in
            elim (ticks_near gives 2 at w counts kept s (omega arith) (inr (named (peer s))) k (omega (arith, less, small)) g.known
            (fits_met at w counts kept named awake ticks (slack_of ticks) 2 old g more (omega arith))
            (fits_in_round at w counts kept named awake ticks (slack_of ticks) 2 old g more (omega arith) k less) ticks (mode at w s) m old new less
            (able_in at w counts kept named awake ticks (slack_of ticks) 2 old g more k less s) g.link
            (wakes_met at w counts kept named awake ticks (slack_of ticks) 2 old g more s) g.rest y h) [
              | inl q ↦ (let l = q.0 in inl (m - k, l, omega (arith, soon, l, some), q.1))
              | inr q ↦ inr (each_map (AtPort (at (peer s)) (Learnt 2 (w (peer (peer s))) (wait_of (w (peer s)) - k)))
                  (AtPort (at (peer s)) PartnerInSync) (λ i p a f. (a f).1 (omega arith)) (half (peer s) new).state.system_ports
                  (beside at w 2 (ticked_by k g.known) (peer s) (Learnt 2 (w (peer (peer s))) (wait_of (w (peer s)) - k)) new q.link))
            ]
        tells s (inr y) = inr (hears_on old new c.fresh (k, some, less, h) (peer s) y)

    -- a round after both are synchronized: all that is on the cable says so

    synced_round : (old new : WorldState) (g : Going 1 0 0 old) → ((s : Side) → AtIt at w s Synced old) → (r : Round old new)
        → (t : Side) → Link 1 at w (ticked_by r.0 g.known) (peer t) Synced new × (x : ℕ) × Past t x at (IsGood 2 w t) 0 new
    synced_round old new g synced (k, some, less, h) t = let x = peer t in
        let l = knows_in at w counts kept ticks (slack_of ticks) 1 old g more x in
        flush gives k 1 2 at w g.known t Synced (fits_met at w counts kept named awake ticks (slack_of ticks) 1 old g more (omega arith))
        (fits_in_round at w counts kept named awake ticks (slack_of ticks) 1 old g more (omega arith) k less)
        (λ a q. synced_along (w x) (w (peer x)) (g.known x - a) 1 (omega arith) (omega (arith, l, q, less)))
        (λ a q p r run rest e y. subst Synced (sym (ticks_still 1 (w x) (w (peer x)) (g.known x - a) p r (omega (arith, l, q, less)) e run)) (y.0, y.1))
        (λ p y. y) (λ p y f. y) (λ f. omega (arith, l, less)) old new (join 1 at w g.known One x Synced old g.link (synced x)) h

    raises : (old new : WorldState) → Going 1 0 0 old → ((s : Side) → AtIt at w s Synced old) → Round old new → Going 2 0 0 new
    raises old new g synced h = let r = synced_round old new g synced h in
        let f = met_on 1 old new (omega arith) h g in
        let now : (s : Side) → AtIt at w s Synced new = λ s. subst (λ u. AtIt at w u Synced new) (peer_twice s)
        (beside at w 1 (ticked_by h.0 g.known) (peer (peer s)) Synced new (r (peer s)).0) in
        record {
          known = f.known;
          next = f.next;
          link = raised at w 1 2 f.known One Nothing new
              (λ s. each_map (AtPort (at s) Synced) (AtPort (at s) (λ p. 2 ≤ 2 → Synced p)) (λ m p a e l. a e) (half s new).state.system_ports (now s))
              f.link (λ t. let p = (r t).2 in
              subst (AllByRecursion (IsGood 2 w t)) (sym (same_items (r t).1 f.link.index at p.flying f.link.flying new p.on f.link.links t)) p.items);
          rest = f.rest;
          fits = f.fits;
          later = f.later;
          longer = f.longer;
          ahead = f.ahead;
          told = f.told;
          took = f.took;
        }

    agrees_first : (j : WorldState) → Going 2 0 0 j → Agrees 0 j
    agrees_first j g = record {
      fresh = g;
      tells = λ s. elim (g.told s (let l = knows_in at w counts kept ticks (slack_of ticks) 2 j g more (peer s) in omega (arith, l))) [
        | inl owes ↦ inl (
          10 + ticks + ticks,
          omega arith,
          omega arith,
          inl (
            omega arith,
            subst (λ m. AtIt at w s (Sounds (mode at w s) m) j) (omega arith)
                (owed at w g.known j g.link s (let l = knows_in at w counts kept ticks (slack_of ticks) 2 j g more s in omega (arith, l)) owes),
          ),
        )
        | inr (x, fl, on, tells) ↦ elim (tells_which (w (peer s)) (w s) (fl (peer s)) (AtIt at w (peer s) PartnerInSync j) tells) [
          | inl f ↦ inl (
            ticks,
            omega arith,
            omega arith,
            inr (
              omega (arith, one),
              inr (
                x,
                fl,
                on,
                tells_map (w (peer s)) (w s) (fl (peer s)) (AtIt at w (peer s) PartnerInSync j) (AtIt at w (peer s) Whoever j)
                    (λ y. each_map (AtPort (at (peer s)) PartnerInSync) (AtPort (at (peer s)) Whoever) (λ m p a e. tt)
                    (half (peer s) j).state.system_ports y) tells,
              ),
              (x, fl, on, f),
            ),
          )
          | inr y ↦ inr y
        ]
      ];
    }

    -- So both come to agree from a world in which both are synchronized: the round after it is the first.

    abbrev ComesToAgree : ℕ → WorldState → Type 0
    ComesToAgree n j = ((n ≡ 0) × Going 1 0 0 j × ((s : Side) → AtIt at w s Synced j)) ⊎ ((k : ℕ) × (n ≤ k + 1) × Agrees k j)

    comes_nearer : (n : ℕ) (old new : WorldState) → Round old new → ComesToAgree n old → ComesToAgree (n + 1) new
    comes_nearer n old new r (inl (e, g, synced)) = inr (0, omega (arith, e), agrees_first new (raises old new g synced r))
    comes_nearer n old new r (inr (k, l, c)) = inr (k + 1, omega (arith, l), agrees_on k old new r c)

    pub comes_to_agree : (n : ℕ) (top new : WorldState) → 11 + ticks + ticks ≤ n → Going 1 0 0 top → ((s : Side) → AtIt at w s Synced top)
        → TickedRounds (LeavesPorts at) ticks gives n top new → AgreesIn new
    comes_to_agree n top new enough g synced h =
        elim (rounds_on (LeavesPorts at) ticks gives ComesToAgree top (inl (refl, g, synced)) comes_nearer n new h) [
          | inl (e, g, synced) ↦ absurd (omega (arith, e, enough))
          | inr (k, l, c) ↦ record {
            fresh = c.fresh;
            heard = λ t. subst (λ u. AtIt at w u PartnerInSync new) (peer_twice t) (elim (c.tells (peer t)) [
              | inl (m, far, soon, y) ↦ absurd (omega (arith, l, enough, far, soon, one))
              | inr y ↦ y
            ]);
          }
        ]

    -- and so it stays
    pub keeps_agreeing : (n : ℕ) (old new : WorldState) → AgreesIn old → TickedRounds (LeavesPorts at) ticks gives n old new → AgreesIn new
    keeps_agreeing n old new c h = rounds_on (LeavesPorts at) ticks gives (λ m j. AgreesIn j) old c (λ m i j r a.
        record { fresh = met_on 2 i j (omega arith) r a.fresh; heard = λ t. hears_on i j a.fresh r t (a.heard t) }) n new h

-- as what is compared has it

present_of : (gives : Algorithms) (at : Side → ℕ) (old new : WorldState) (t : Side) → Took-it gives 1 at (counts_of at old) (kept_of at old) t new
    → Present at t new
present_of gives at old new t m there = grind arith

pub agreed_synced : (gives : Algorithms) (at : Side → ℕ) (w : Side → Lacpdu) (old j : WorldState) (ticks : ℕ) → ticks ≤ most_ticks
    → AgreesIn at w (counts_of at old) (kept_of at old) ticks j → AreSynced at w j
agreed_synced gives at w old j ticks small c = let g = c.fresh in
    let knows : (s : Side) → 1 ≤ g.known s = λ s. (let m = knows_in at w (counts_of at old) (kept_of at old) ticks (slack_of ticks) 2 j g
    (omega (arith, small)) s in omega (arith, m)) in
    record { known = g.known; link = g.link; knows = knows; heard = c.heard; present = λ s. present_of gives at old j s (g.rest, g.took s (knows s)) }
