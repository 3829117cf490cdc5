-- How the mux machine of a SELECTED port climbs, and what a round keeps of what holds of one end.
use Rattle.lagprogress.proofs.Common.{Bool, List, Some, [], ap, arith, false, if◌then◌else◌, inl, inr, refl, slice_get, subst, sym, true, ℕ, ◌&&◌}
use Rattle.lagprogress.proofs.Common.{◌-◌, ◌∙◌, ◌∷◌, ◌≡◌, ◌≤◌, ◌⊎◌, and_parts, nat_tests, AllByRecursion, AggId, Choice, Standby, Unselected}
use Rattle.lagprogress.proofs.Common.{is_selected, is_unselected, same_party, party_itself, Lacpdu, party_of, MuxState, Attached}
use Rattle.lagprogress.proofs.Common.{CollectingDistributing, Waiting, ReceiveState, Machines, is_synchronized, mux_rows, partner_synchronized}
use Rattle.lagprogress.proofs.Common.{same_mux_state, default_partner, lacpdu_rows, receive_rows, same_receive_state, AtRest, RunsToRest, count_down}
use Rattle.lagprogress.proofs.Common.{has_chosen, has_waited, is_detached_or_waiting, SystemPort, ProcessesLacpdu, IsSound, SystemState, stage_of}
use Rattle.lagprogress.proofs.Common.{HasRecorded, IsTimed, KeptBySettling, EnabledKeep, no, not_down, times_keep, Known, counts, rests_still}
use Rattle.lagprogress.proofs.Common.{mux_leaves, periodic_leaves, fires_keep, runs_keep}
use Rattle.lagprogress.proofs.EndFacts.{Along, IsEnd, SameActor, Synced, activity, not_attached, takes_sync, each_row}
use Rattle.lagbeside.proofs.ReadyMembers.{Fine, no_member_waits}

-- while current_while has ticks left the receive machine stays

pub state_not : (s : ReceiveState) (r : ReceiveState) (b : Bool) → same_receive_state s r ≡ false → (same_receive_state s r && b) ≡ true → ⊥
state_not s r b e h = no (sym (ap (λ c. c && b) e) ∙ h)

known_rests : (u : Lacpdu) (c : ℕ) (p : Machines) → 1 ≤ c → Known u c 0 p → AtRest receive_rows p
known_rests u c p hyp1 hyp2 = grind (arith, nat_tests, false)

pub known_still : (u : Lacpdu) (c : ℕ) (p q : Machines) → 1 ≤ c → Known u c 0 p → RunsToRest receive_rows p q → q ≡ p
known_still u c p q l k h = rests_still receive_rows h.0 p q (known_rests u c p l k) h.1

pub ticks_still : (d : ℕ) (v u : Lacpdu) (c : ℕ) (p q : Machines) → 1 ≤ c - 1 → IsEnd d v u c p → RunsToRest receive_rows (count_down p) q → q ≡ count_down p
ticks_still d v u c p q l a h = known_still u (c - 1) (count_down p) q l (counts u c 0 p a.1) h

-- a SELECTED port climbs

-- SELECTED, and in ATTACHED or beyond, or in WAITING for so many ticks at the most
abbrev pub Rising : ℕ → Machines → Type 0
Rising t p = (is_selected p.choice ≡ true) × ((is_synchronized p.mux ≡ true) ⊎ ((p.mux ≡ Waiting) × (p.wait_while ≤ t)))

both_not : (c : Choice) → is_selected c ≡ true → is_unselected c ≡ true → ⊥
both_not c h k = grind (arith, nat_tests)

not_waiting : (m : MuxState) (g : Bool) (s : MuxState) → same_mux_state s Waiting ≡ false → (same_mux_state s m && g) ≡ true → m ≡ Waiting → ⊥
not_waiting m g s f h e = no (sym (ap (λ b. b && g) f) ∙ subst (λ x. (same_mux_state s x && g) ≡ true) e h)

pub rising_rows : (t : ℕ) (ready : Bool) → EnabledKeep (Rising t) (mux_rows ready)
rising_rows t ready = grind (arith, nat_tests, not_attached, not_waiting, both_not, and_parts, not_down)

pub keeps_selected : (u x : Lacpdu) (p q : Machines) → SameActor x u → HasRecorded u p → ProcessesLacpdu x p q
    → (q.choice ≡ p.choice) × (q.mux ≡ p.mux) × (q.wait_while ≡ p.wait_while)
keeps_selected u x p q e known h = elim h [
  | inl f ↦ elim f [
    | inl g ↦ (let same : same_party (party_of x.actor) (party_of p.partner) ≡ true =
        subst (λ y. same_party y (party_of p.partner) ≡ true) (known.party ∙ sym e.0) (party_itself (party_of p.partner)) in (
          ap (λ (r : Machines). r.choice) g.1 ∙ ap (λ b. if b then p.choice else Unselected) same,
          ap (λ (r : Machines). r.mux) g.1,
          ap (λ (r : Machines). r.wait_while) g.1,
        ))
    | inr g ↦ absurd g
  ]
  | inr r ↦ (ap (λ (r : Machines). r.choice) r.1, ap (λ (r : Machines). r.mux) r.1, ap (λ (r : Machines). r.wait_while) r.1)
]

pub rising_along : (v u : Lacpdu) (c d t : ℕ) → 1 ≤ d → 1 ≤ c → Along (Rising t) v u c d
rising_along v u c d t there known = record {
  mux = λ ready p q h y. times_keep (Rising t) (mux_rows ready) (rising_rows t ready) h.0 p q h.1 y;
  periodic = λ p q h a y. periodic_leaves (Rising t) p q h y;
  select = λ choice p none y. absurd (no (sym none ∙ y.0));
  takes = λ x p q e awake h a y. (let k = keeps_selected u x p q (e.0 there) (a.1.1 known).0 h in (
    ap is_selected k.0 ∙ y.0,
    elim y.1 [ inl s ↦ inl (ap is_synchronized k.1 ∙ s) | inr w ↦ inr (k.1 ∙ w.0, subst (λ n. n ≤ t) (sym k.2) w.1) ],
  ));
}

pub ticks_rising : (d : ℕ) (v u : Lacpdu) (c t : ℕ) (p q : Machines) → 1 ≤ c - 1 → RunsToRest receive_rows (count_down p) q
    → IsEnd d v u c p → Rising t p → Rising (t - 1) q
ticks_rising d v u c t p q l h a y = grind (arith, nat_tests, ticks_still d v u c p q l a h)

-- a SELECTED port at rest
pub rising_first : (p : Machines) → AtRest (mux_rows false) p → IsTimed p → is_selected p.choice ≡ true → Rising 20 p
rising_first p rest timed h = grind (arith, nat_tests)

-- a port that may be SELECTED

-- in ATTACHED or beyond, or in WAITING for so many ticks at the most
abbrev pub HasRisen : ℕ → MuxState → ℕ → Type 0
HasRisen t m n = (is_synchronized m ≡ true) ⊎ ((m ≡ Waiting) × (n ≤ t))

-- so it is if it is SELECTED
abbrev pub Ripe : ℕ → Machines → Type 0
Ripe t p = is_selected p.choice ≡ true → HasRisen t p.mux p.wait_while

-- each port that waits in an aggregator has waited

risen_waits : (m : MuxState) (n : ℕ) → HasRisen 0 m n → is_detached_or_waiting (stage_of m n) ≡ true → has_waited (stage_of m n) ≡ true
risen_waits m n h e = grind (arith, nat_tests)

member_selected : (agg : AggId) (c : Choice) → has_chosen agg c ≡ true → is_selected c ≡ true
member_selected agg c h = grind (arith, nat_tests)

fine : (agg : AggId) (ports : List SystemPort) → AllByRecursion (λ (y : SystemPort). Ripe 0 y.port) ports → AllByRecursion (Fine agg) ports
fine agg [] a = tt
fine agg (y ∷ ys) a = (λ c l. risen_waits y.port.mux y.port.wait_while (a.0 (member_selected agg y.port.choice c)) l, fine agg ys a.1)

never_waits : (s : SystemState) (i : ℕ) (x : SystemPort) (c : Choice) → x.port.choice ≡ c → IsSound s → slice_get s.system_ports i ≡ Some x
    → AllByRecursion (λ (y : SystemPort). Ripe 0 y.port) s.system_ports → is_selected c ≡ true → x.port.mux ≡ Waiting → ⊥
never_waits s i x c e h at ripe sel m = grind (arith, nat_tests, no_member_waits, fine)

-- a SELECTED port does not wait, where no member of its aggregator has ticks of wait_while left
pub climbed : (s : SystemState) (i : ℕ) (x : SystemPort) → IsSound s → slice_get s.system_ports i ≡ Some x
    → AllByRecursion (λ (y : SystemPort). Ripe 0 y.port) s.system_ports → Rising 0 x.port → Synced x.port
climbed s i x h at ripe y = grind (arith, nat_tests, never_waits)

-- a port whose link is down

-- it does not stand by, and it has risen if it is SELECTED
abbrev pub Dormant : ℕ → Choice → MuxState → ℕ → Type 0
Dormant t c m n = ((agg : AggId) → c ≡ Standby agg → ⊥) × (is_selected c ≡ true → HasRisen t m n)

-- so is the port if its link is down
abbrev pub Down : ℕ → ℕ → Machines → Type 0
Down t k p = p.enabled ≡ false → Dormant t p.choice p.mux p.wait_while

unselects : (t : ℕ) (b : Bool) (c : Choice) (m : MuxState) (n : ℕ) → Dormant t c m n → Dormant t (if b then c else Unselected) m n
unselects t b c m n a = grind (arith, nat_tests)

pub down_settles : (t : ℕ) → KeptBySettling (Down t)
down_settles t = record {
  mux = λ k ready p q h a e. (let same = mux_leaves (λ r. (r.choice ≡ p.choice) × (r.enabled ≡ p.enabled)) ready p q h (refl, refl) in
      let was = a (sym same.1 ∙ e) in (
        λ agg s. was.0 agg (sym same.0 ∙ s),
        λ s. (let chosen = ap is_selected (sym same.0) ∙ s in
            (times_keep (Rising t) (mux_rows ready) (rising_rows t ready) h.0 p q h.1 (chosen, was.1 chosen)).1),
      ));
  periodic = λ k. periodic_leaves (Down t k);
  select = λ k choice p none may a e. absurd (elim may.0 [ inl up ↦ no (sym e ∙ up.0) | inr s ↦ (a e).0 s.0 s.1 ]);
}

pub down_takes : (t k : ℕ) (x : Lacpdu) (p q : Machines) → ProcessesLacpdu x p q → Down t k p → Down t k q
down_takes t k x p q h a = elim h [
  | inl f ↦ fires_keep (Down t k) (lacpdu_rows x)
      (λ p a e. unselects t (same_party (party_of x.actor) (party_of p.partner)) p.choice p.mux p.wait_while (a e), tt) p q f a
  | inr r ↦ subst (Down t k) (sym r.1) a
]

pub down_ticks : (t k : ℕ) (p q : Machines) → RunsToRest receive_rows (count_down p) q → Down t k p → Down (t - 1) k q
down_ticks t k p q h a = runs_keep (Down (t - 1) k) receive_rows (each_row (λ p a. a) (λ p a. a) (λ p a. a)
    (λ p a e. unselects (t - 1) (same_party (party_of default_partner) (party_of p.partner)) p.choice p.mux p.wait_while (a e)) (λ p a. a))
    (count_down p) q h (λ e. ((a e).0, λ s. elim ((a e).1 s) [ inl y ↦ inl y | inr w ↦ (let l = w.1 in inr (w.0, omega (arith, l))) ]))

-- the partner stays synchronized

abbrev pub PartnerInSync : Machines → Type 0
PartnerInSync p = partner_synchronized p ≡ true

pub partner_along : (v u : Lacpdu) (c d : ℕ) → 2 ≤ d → (activity u ≡ true) ⊎ (activity v ≡ true) → Along PartnerInSync v u c d
partner_along v u c d there on = record {
  mux = mux_leaves PartnerInSync;
  periodic = λ p q h a y. periodic_leaves PartnerInSync p q h y;
  select = λ choice p none y. y;
  takes = λ x p q e awake h a y. takes_sync v u x p q on (e.0 (omega (arith, there))) (e.1 there) awake h a.0 a.1.0;
}

pub ticks_partner : (d : ℕ) (v u : Lacpdu) (c : ℕ) (p q : Machines) → 1 ≤ c - 1 → RunsToRest receive_rows (count_down p) q
    → IsEnd d v u c p → PartnerInSync p → PartnerInSync q
ticks_partner d v u c p q l h a y = subst PartnerInSync (sym (ticks_still d v u c p q l a h)) y

-- Selected stays what it is

pub choice_along : (v u : Lacpdu) (c d : ℕ) (choice : Choice) → is_selected choice ≡ true → 1 ≤ d → 1 ≤ c → Along (λ p. p.choice ≡ choice) v u c d
choice_along v u c d choice chosen there known = record {
  mux = mux_leaves (λ p. p.choice ≡ choice);
  periodic = λ p q h a y. periodic_leaves (λ p. p.choice ≡ choice) p q h y;
  select = λ other p none y. absurd (no (sym none ∙ (ap is_selected y ∙ chosen)));
  takes = λ x p q e awake h a y. (keeps_selected u x p q (e.0 there) (a.1.1 known).0 h).0 ∙ y;
}

distributing_now : (m : MuxState) (sel sync : Bool) → is_synchronized m ≡ true → sel ≡ true → sync ≡ true
    → (same_mux_state Attached m && (sel && sync)) ≡ false → m ≡ CollectingDistributing
distributing_now m sel sync h e f g = grind (arith, nat_tests)

-- a synchronized port at rest whose partner is synchronized
pub distributes_now : (p : Machines) → AtRest (mux_rows false) p → Synced p → PartnerInSync p → p.mux ≡ CollectingDistributing
distributes_now p rest s y = distributing_now p.mux (is_selected p.choice) (partner_synchronized p) s.1 s.0 y rest.1.1.1.1.0
