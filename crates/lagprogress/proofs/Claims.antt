-- What a port owes its partner once it is synchronized: an LACPDU that says so.
use Rattle.lagprogress.proofs.Common.{Bool, ap, arith, false, if◌then◌else◌, inl, inr, not, subst, sym, true, ℕ, ◌||◌, ◌∙◌, ◌≡◌, ◌≢◌, ◌≤◌, ◌⊎◌}
use Rattle.lagprogress.proofs.Common.{cases_Bool, nat_tests, Unselected, StateBits, is_selected, same_party, bits_of, with_synchronization}
use Rattle.lagprogress.proofs.Common.{with_timeout, exact_party, party_itself, encode_then_decode, Info, Lacpdu, party_of, Machines, is_synchronized}
use Rattle.lagprogress.proofs.Common.{mux_rows, partner_synchronized, RunsPeriodic, is_silent, partner_short, periodic_rows, timer_expired}
use Rattle.lagprogress.proofs.Common.{default_partner, is_maintained, lacpdu_rows, receive_rows, recorded_synchronization, RunsToRest, count_down}
use Rattle.lagprogress.proofs.Common.{pdu_of, ProcessesLacpdu, can_receive, can_receive_in, named, KeptBySettling, no, decoded, AtPort, mux_leaves}
use Rattle.lagprogress.proofs.Common.{periodic_leaves, not_silent, unclear, RowsKeep, fires_keep, runs_keep}
use Rattle.lagbeside.proofs.Sounding.{rests}
use Rattle.lagprogress.proofs.EndFacts.{all_true, first_true, said_bits, Along, CanSound, IsEnd, SameActor, Says, Synced, activity, awake_fires}
use Rattle.lagprogress.proofs.EndFacts.{end_settles, maintained, each_row}
use Rattle.lagprogress.proofs.Lapsing.{expired_active}

-- SELECTED, in ATTACHED or COLLECTING_DISTRIBUTING, and the actor of the LACPDU is recorded as the partner
abbrev pub Claims : Lacpdu → Machines → Type 0
Claims u p = Synced p × (party_of p.partner ≡ party_of u.actor)

-- then NTT is true
abbrev pub Owes : Lacpdu → Machines → Type 0
Owes u p = Claims u p → p.ntt ≡ true

pub claims_or_not : (u : Lacpdu) (p : Machines) → Claims u p ⊎ (Claims u p → ⊥)
claims_or_not u p = elim (cases_Bool (same_party (party_of p.partner) (party_of u.actor))) [
  | inl same ↦ (let e = exact_party (party_of p.partner) (party_of u.actor) same in grind (arith, nat_tests))
  | inr other ↦ inr (λ c. no (sym other ∙ (ap (λ y. same_party y (party_of u.actor)) c.1 ∙ party_itself (party_of u.actor))))
]

-- settling

owes_mux : (u : Lacpdu) (ready : Bool) → RowsKeep (Owes u) (mux_rows ready)
owes_mux u ready = grind (arith, nat_tests)

abbrev Calmly : Lacpdu → Machines → Type 0
Calmly u p = (is_silent p ≡ false) × Owes u p

owes_periodic_rows : (u : Lacpdu) → RowsKeep (Calmly u) periodic_rows
owes_periodic_rows u = grind (arith, nat_tests)

owes_periodic : (u : Lacpdu) (p q : Machines) → RunsPeriodic p q → (Claims u p → is_silent p ≡ false) → Owes u p → Owes u q
owes_periodic u p q h calm a = elim (claims_or_not u p) [
  | inl claim ↦ (let mid = runs_keep (Calmly u) periodic_rows (owes_periodic_rows u) p h.0 h.1 (calm claim, a) in
      let r = rests h.0.periodic h.0 h.1.2 mid.0 in
      let same = unclear h.0.periodic (timer_expired h.0) (partner_short h.0) h.0.ntt r in
      subst (Owes u) (sym h.2) (λ c. same ∙ mid.1 c))
  | inr not ↦ λ c. absurd (periodic_leaves (λ r. Claims u r → ⊥) p q h not c)
]

-- The port is active, or its partner is, and recorded as active if it is recorded. The first LACPDU is of the port itself, the
-- second of its partner.
abbrev pub Wakeful : Lacpdu → Lacpdu → Machines → Type 0
Wakeful v u p = (activity v ≡ true)
    ⊎ ((activity u ≡ true) × (party_of p.partner ≡ party_of u.actor → (bits_of p.partner.state).activity ≡ true))

pub can_wake : (d : ℕ) (v u : Lacpdu) (fast : Bool) (c : ℕ) (p : Machines) → CanSound v u fast c → IsEnd d v u c p → Wakeful v u p
can_wake d v u fast c p can a = grind (arith, nat_tests)

-- then it is not silent where it claims to be synchronized
wakeful_calm : (v u : Lacpdu) (p : Machines) → p.enabled ≡ true → Says v p → Wakeful v u p → Claims u p → is_silent p ≡ false
wakeful_calm v u p up says y claim = grind (arith, nat_tests, not_silent)

pub wakeful_along : (v u : Lacpdu) (c d : ℕ) → 1 ≤ d → Along (Wakeful v u) v u c d
wakeful_along v u c d there = record {
  mux = mux_leaves (Wakeful v u);
  periodic = λ p q h a y. periodic_leaves (Wakeful v u) p q h y;
  select = λ choice p none y. y;
  takes = λ x p q e awake h a y. elim h [
    | inl f ↦ fires_keep (Wakeful v u) (lacpdu_rows x) (
      λ p b. elim b [
        | inl on ↦ inl on
        | inr r ↦ inr (r.0, λ same. ap (λ (b : StateBits). b.activity) (decoded (recorded_synchronization x p) x.actor) ∙ ((e.0 there).1 ∙ r.0))
      ],
      tt,
    ) p q f y
    | inr r ↦ subst (Wakeful v u) (sym r.1) y
  ];
}

-- an end that owes
abbrev pub Owing : ℕ → Lacpdu → Lacpdu → ℕ → Machines → Type 0
Owing d v u c p = IsEnd d v u c p × Wakeful v u p × Owes u p

pub owing_settles : (d : ℕ) (v u : Lacpdu) (c n : ℕ) → 1 ≤ d → KeptBySettling (AtPort n (Owing d v u c))
owing_settles d v u c n there = let e = end_settles (Wakeful v u) v u c d n (wakeful_along v u c d there) in
    record {
      mux = λ m ready p q h a f. (let r = e.mux m ready p q h (λ g. ((a g).0, (a g).1)) f in
          (r.0, r.1, runs_keep (Owes u) (mux_rows ready) (owes_mux u ready) p q h (a f).2));
      periodic = λ m p q h a f. (let r = e.periodic m p q h (λ g. ((a g).0, (a g).1)) f in
          let was = a f in (r.0, r.1, owes_periodic u p q h (wakeful_calm v u p was.0.1.0 was.0.0 was.1) was.2));
      select = λ m choice p none may a f. (let r = e.select m choice p none may (λ g. ((a g).0, (a g).1)) f in
          (r.0, r.1, λ c. absurd (no (sym may.1 ∙ c.0.1))));
    }

-- a receipt

raise : (b ntt : Bool) → ntt ≡ true → (if b then ntt else true) ≡ true
raise b ntt e = grind (arith, nat_tests)

pub owes_takes : (u x : Lacpdu) (p q : Machines) → SameActor x u → ProcessesLacpdu x p q → Owes u p → Owes u q
owes_takes u x p q e h a = elim h [
  | inl f ↦ elim f [
    | inl g ↦ subst (Owes u) (sym g.1) (λ c. elim (cases_Bool (same_party (party_of x.actor) (party_of p.partner))) [
      | inl same ↦ raise _ p.ntt (a (
        (sym (ap (λ b. is_selected (if b then p.choice else Unselected)) same) ∙ c.0.0, c.0.1),
        sym (exact_party (party_of x.actor) (party_of p.partner) same) ∙ e.0,
      ))
      | inr other ↦ absurd (no (sym (ap (λ b. is_selected (if b then p.choice else Unselected)) other) ∙ c.0.0))
    ])
    | inr g ↦ absurd g
  ]
  | inr r ↦ subst (Owes u) (sym r.1) a
]

-- a tick

desync : (i : Info) → party_of (record i { state = with_synchronization false i.state }) ≡ party_of i
desync i = ap (named i) (decoded false i)

expire : (i : Info) → party_of (record i { state = with_timeout true (with_synchronization false i.state) }) ≡ party_of i
expire i = let s = with_synchronization false i.state in
    ap (named i) (encode_then_decode (record (bits_of s) { timeout = true })) ∙ desync i

owes_receive : (u : Lacpdu) → RowsKeep (Owes u) receive_rows
owes_receive u = each_row
    (λ p a c. a (c.0, sym (desync p.partner) ∙ c.1))
    (λ p a c. a (c.0, sym (desync p.partner) ∙ c.1))
    (λ p a c. a (c.0, sym (expire p.partner) ∙ c.1))
    (λ p a c. elim (cases_Bool (same_party (party_of default_partner) (party_of p.partner))) [
      | inl same ↦ a (
        (sym (ap (λ b. is_selected (if b then p.choice else Unselected)) same) ∙ c.0.0, c.0.1),
        sym (exact_party (party_of default_partner) (party_of p.partner) same) ∙ c.1,
      )
      | inr other ↦ absurd (no (sym (ap (λ b. is_selected (if b then p.choice else Unselected)) other) ∙ c.0.0))
    ])
    (λ p a c. a (c.0, sym (expire p.partner) ∙ c.1))

-- where the default partner is no other's, or the port is active, it stays wakeful
abbrev pub IsNamed : Lacpdu → Type 0
IsNamed u = party_of default_partner ≢ party_of u.actor

wakeful_receive : (v u : Lacpdu) → (activity v ≡ true) ⊎ IsNamed u → RowsKeep (Wakeful v u) receive_rows
wakeful_receive v u it = each_row
    (λ p a. desynced p a)
    (λ p a. desynced p a)
    (λ p a. lapsed p a)
    (λ p a. elim it [ inl on ↦ inl on | inr other ↦ elim a [ inl on ↦ inl on | inr r ↦ inr (r.0, λ same. absurd (other same)) ] ])
    (λ p a. lapsed p a)
  where
    still : (p : Machines) (i : Info) → Wakeful v u p → party_of i ≡ party_of p.partner
        → (bits_of i.state).activity ≡ (bits_of p.partner.state).activity → Wakeful v u (record p { partner = i })
    still p i a same bit = elim a [ inl on ↦ inl on | inr r ↦ inr (r.0, λ e. bit ∙ r.1 (sym same ∙ e)) ]

    desynced : (p : Machines) → Wakeful v u p → Wakeful v u (record p { partner = record p.partner { state = with_synchronization false p.partner.state } })
    desynced p a = still p (record p.partner { state = with_synchronization false p.partner.state }) a (desync p.partner)
        (ap (λ (b : StateBits). b.activity) (decoded false p.partner))

    lapsed : (p : Machines) → Wakeful v u p
        → Wakeful v u (record p { partner = record p.partner { state = with_timeout true (with_synchronization false p.partner.state) } })
    lapsed p a = still p (record p.partner { state = with_timeout true (with_synchronization false p.partner.state) }) a (expire p.partner)
        (expired_active p.partner.state)

pub wakeful_ticks : (v u : Lacpdu) (p q : Machines) → (activity v ≡ true) ⊎ IsNamed u → RunsToRest receive_rows (count_down p) q → Wakeful v u p → Wakeful v u q
wakeful_ticks v u p q named h a = runs_keep (Wakeful v u) receive_rows (wakeful_receive v u named) (count_down p) q h a

pub owes_ticks : (u : Lacpdu) (p q : Machines) → RunsToRest receive_rows (count_down p) q → Owes u p → Owes u q
owes_ticks u p q h a = runs_keep (Owes u) receive_rows (owes_receive u) (count_down p) q h a

-- what it says

-- the LACPDU says that its actor is synchronized and has recorded the actor of the other as its partner, and one of the
-- two is known to be active; the third is the sender's own
abbrev pub SaysSynced : Lacpdu → Lacpdu → Lacpdu → Type 0
SaysSynced u v x = ((bits_of x.actor.state).synchronization ≡ true) × (party_of x.partner ≡ party_of u.actor)
    × ((activity v ≡ true) ⊎ ((activity u ≡ true) × ((bits_of x.partner.state).activity ≡ true)))

pub claim_said : (v u : Lacpdu) (dl : ℕ) (p : Machines) → Wakeful v u p → Claims u p → SaysSynced u v (pdu_of p dl)
claim_said v u dl p wakes claim = let bits = said_bits p in (
  ap (λ (b : StateBits). b.synchronization) bits ∙ claim.0.1,
  claim.1,
  elim wakes [ inl on ↦ inl on | inr r ↦ inr (r.0, r.1 claim.1) ],
)

-- it is recorded; the first LACPDU is of the port that takes it
pub takes_claim : (u v x : Lacpdu) (p q : Machines) → SameActor x v → SaysSynced u v x → can_receive p ≡ true → ProcessesLacpdu x p q
    → Says u p → p.enabled ≡ true → partner_synchronized q ≡ true
takes_claim u v x p q e i awake h a up = elim h [
  | inl f ↦ elim f [
    | inl g ↦ subst (λ r. partner_synchronized r ≡ true) (sym g.1)
        (ap (λ (b : StateBits). b.synchronization) (decoded (recorded_synchronization x p) x.actor) ∙ records)
    | inr g ↦ absurd g
  ]
  | inr r ↦ absurd (awake_fires p.enabled (can_receive_in p.receive) up awake r.0.0)
]
  where
    by_activity : (activity v ≡ true) ⊎ ((activity u ≡ true) × ((bits_of x.partner.state).activity ≡ true))
        → (activity x ≡ true) ⊎ ((p.active ≡ true) × ((bits_of x.partner.state).activity ≡ true))
    by_activity (inl k) = inl (e.1 ∙ k)
    by_activity (inr k) = inr (a.1 ∙ k.0, k.1)

    records : recorded_synchronization x p ≡ true
    records = all_true (bits_of x.actor.state).synchronization (is_maintained x p)
        (same_party (party_of x.partner) p.party || not (bits_of x.actor.state).aggregation) i.0
        (maintained (activity x) p.active (bits_of x.partner.state).activity (by_activity i.2))
        (first_true (same_party (party_of x.partner) p.party) (not (bits_of x.actor.state).aggregation)
        (subst (λ y. same_party (party_of x.partner) y ≡ true) (i.1 ∙ sym a.0) (party_itself (party_of x.partner))))
