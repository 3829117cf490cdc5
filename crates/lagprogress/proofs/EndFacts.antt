-- What ticks, receipts and settlings leave of a port at an end of a cable whose other end sends LACPDUs of one kind.
use Rattle.lagprogress.proofs.Common.{Bool, ap, arith, false, if◌then◌else◌, inl, inr, refl, subst, sym, true, ℕ, ◌&&◌, ◌-◌, ◌||◌, ◌∙◌, ◌≡◌, ◌≤◌, ◌⊎◌}
use Rattle.lagprogress.proofs.Common.{nat_tests, Choice, Unselected, StateBits, is_selected, same_party, bits_of, party_itself, encode_then_decode}
use Rattle.lagprogress.proofs.Common.{Lacpdu, party_of, MuxState, CollectingDistributing, Machines, is_synchronized, mux_rows, partner_synchronized}
use Rattle.lagprogress.proofs.Common.{same_mux_state, RunsPeriodic, periodic_rows, lacpdu_rows, receive_rows, recorded_synchronization, AtRest}
use Rattle.lagprogress.proofs.Common.{RunsToRest, count_down, pdu_of, ProcessesLacpdu, can_receive, can_receive_in, HasRecorded, timeout_time}
use Rattle.lagprogress.proofs.Common.{KeptBySettling, EnabledKeep, no, not_down, times_keep, Known, counts, decoded, receive_known, recorded, AtPort}
use Rattle.lagprogress.proofs.Common.{mux_leaves, periodic_leaves, Calm, Sounds, counts_sounds, mux_sounds, not_silent, periodic_runs, RowsKeep}
use Rattle.lagprogress.proofs.Common.{runs_keep, takes_keep}
use Rattle.lagbeside.proofs.Knowing.{receives}
use Rattle.lagbeside.proofs.Heartbeat.{raised}

-- the bits of an LACPDU that a port sends
pub said_bits : (p : Machines) → bits_of (pdu_of p 0).actor.state ≡ record {
  activity = p.active;
  timeout = p.short;
  aggregation = p.party.aggregatable;
  synchronization = is_synchronized p.mux;
  collecting = same_mux_state CollectingDistributing p.mux;
  distributing = same_mux_state CollectingDistributing p.mux;
  defaulted = p.defaulted;
  expired = p.expired;
}
said_bits p = encode_then_decode _

-- Activity and Timeout of the actor of an LACPDU
abbrev pub activity : Lacpdu → Bool
activity v = (bits_of v.actor.state).activity

abbrev pub short_timeout : Lacpdu → Bool
short_timeout v = (bits_of v.actor.state).timeout

-- the ticks with which current_while starts at the port that sends the LACPDU
abbrev pub wait_of : Lacpdu → ℕ
wait_of v = timeout_time (short_timeout v)

-- the LACPDU says of the port what it is
abbrev pub Says : Lacpdu → Machines → Type 0
Says v p = (p.party ≡ party_of v.actor) × (p.active ≡ activity v) × (p.short ≡ short_timeout v)

-- both LACPDUs say the same of their actors
abbrev pub SameActor : Lacpdu → Lacpdu → Type 0
SameActor v u = (party_of v.actor ≡ party_of u.actor) × (activity v ≡ activity u) × (short_timeout v ≡ short_timeout u)

-- SELECTED, and ATTACHED or COLLECTING_DISTRIBUTING
abbrev pub Synced : Machines → Type 0
Synced p = (is_selected p.choice ≡ true) × (is_synchronized p.mux ≡ true)

-- the LACPDU says that its actor is synchronized and knows the partner, the actor of the other
abbrev pub InSync : Lacpdu → Lacpdu → Type 0
InSync v x = ((bits_of x.actor.state).synchronization ≡ true) × (party_of x.partner ≡ party_of v.actor)
    × ((bits_of x.partner.state).activity ≡ activity v)

-- What is known of an LACPDU that comes to a port: by the first number nothing, or what it says of its actor, or also that
-- it is in sync. Of the others, the first is of the port itself, the second of its partner.
abbrev pub Suits : ℕ → Lacpdu → Lacpdu → Lacpdu → Type 0
Suits d v u x = (1 ≤ d → SameActor x u) × (2 ≤ d → InSync v x)

-- The port is as the first LACPDU says, its link is up, and it has recorded the actor of the second, for so many ticks
-- more if there are any. If the first number is 2, it is synchronized.
abbrev pub IsEnd : ℕ → Lacpdu → Lacpdu → ℕ → Machines → Type 0
IsEnd d v u c p = Says v p × Known u c 0 p × (2 ≤ d → Synced p)

-- what stands beside it and is kept as well; the last number is 0 if nothing is known of the LACPDUs that come
pub record Along (Y : Machines → Type 0) (v u : Lacpdu) (c d : ℕ) : Type 0 where
  pub mux : (ready : Bool) (p q : Machines) → RunsToRest (mux_rows ready) p q → Y p → Y q
  pub periodic : (p q : Machines) → RunsPeriodic p q → IsEnd d v u c p → Y p → Y q
  pub select : (choice : Choice) (p : Machines) → is_selected p.choice ≡ false → Y p → Y (record p { choice = choice })
  pub takes : (x : Lacpdu) (p q : Machines) → Suits d v u x → can_receive p ≡ true → ProcessesLacpdu x p q → IsEnd d v u c p → Y p → Y q

-- settling

pub not_attached : (m : MuxState) (g : Bool) (from : MuxState) → is_synchronized from ≡ false → (same_mux_state from m && g) ≡ true
    → is_synchronized m ≡ true → ⊥
not_attached m g from f h e = grind (arith, nat_tests)

-- settling leaves a synchronized port so
pub synced_mux : (ready : Bool) → EnabledKeep Synced (mux_rows ready)
synced_mux ready = grind (arith, nat_tests, not_attached, not_down)

end_mux : (d : ℕ) (v u : Lacpdu) (c : ℕ) (ready : Bool) → EnabledKeep (IsEnd d v u c) (mux_rows ready)
end_mux d v u c ready = grind (arith, nat_tests, not_attached, not_down)

end_periodic : (d : ℕ) (v u : Lacpdu) (c : ℕ) → RowsKeep (IsEnd d v u c) periodic_rows
end_periodic d v u c = (λ p a. a, (λ p a. a, (λ p a. a, (λ p a. a, (λ p a. a, (λ p a. a, (λ p a. a, tt)))))))

pub end_settles : (Y : Machines → Type 0) (v u : Lacpdu) (c d n : ℕ) → Along Y v u c d → KeptBySettling (AtPort n (λ p. IsEnd d v u c p × Y p))
end_settles Y v u c d n k = record {
  mux = λ m ready p q h a e. (times_keep (IsEnd d v u c) (mux_rows ready) (end_mux d v u c ready) h.0 p q h.1 (a e).0, k.mux ready p q h (a e).1);
  periodic = λ m p q h a e. (
    subst (IsEnd d v u c) (sym h.2) (runs_keep (IsEnd d v u c) periodic_rows (end_periodic d v u c) p h.0 h.1 (a e).0),
    k.periodic p q h (a e).0 (a e).1,
  );
  select = λ m choice p none may a e. (((a e).0.0, (a e).0.1, λ f. absurd (no (sym none ∙ ((a e).0.2 f).0))), k.select choice p none (a e).1);
}

-- what holds of each of the five rows of the receive machine
pub each_row : {A B C D E : Type 0} → A → B → C → D → E → A × (B × (C × (D × (E × Unit {0}))))
each_row a b c d e = (a, (b, (c, (d, (e, tt)))))

-- a receipt

says_kept : (v x : Lacpdu) (p q : Machines) → ProcessesLacpdu x p q → Says v p → Says v q
says_kept v x p q h a = takes_keep (Says v) x (λ p a. a, tt) p q h a

same_recorded : (x u : Lacpdu) (p : Machines) → SameActor x u → HasRecorded x p → HasRecorded u p
same_recorded x u p hyp1 hyp2 = grind (arith, nat_tests)

pub takes_known : (v u x : Lacpdu) (p q : Machines) → SameActor x u → can_receive p ≡ true → ProcessesLacpdu x p q → Says v p
    → p.enabled ≡ true → Known u (wait_of v) 0 q
takes_known v u x p q e awake h a up = let r = recorded x p q up awake h in
    grind (arith, nat_tests, says_kept, same_recorded, timeout_time)

-- an LACPDU of the partner that is recorded leaves Selected
pub keeps_synced : (u x : Lacpdu) (p q : Machines) → SameActor x u → HasRecorded u p → ProcessesLacpdu x p q → Synced p → Synced q
keeps_synced u x p q e known h a = elim h [
  | inl f ↦ elim f [
    | inl g ↦ (let same : same_party (party_of x.actor) (party_of p.partner) ≡ true =
        subst (λ y. same_party y (party_of p.partner) ≡ true) (known.party ∙ sym e.0) (party_itself (party_of p.partner)) in
        subst Synced (sym g.1) (subst (λ b. is_selected (if b then p.choice else Unselected) ≡ true) (sym same) a.0, a.1))
    | inr g ↦ absurd g
  ]
  | inr r ↦ subst Synced (sym r.1) a
]

pub takes_end : (v u x : Lacpdu) (c d : ℕ) (p q : Machines) → Suits d v u x → (1 ≤ c → 1 ≤ d) → (2 ≤ d → 1 ≤ c) → c ≤ wait_of v
    → can_receive p ≡ true → ProcessesLacpdu x p q → IsEnd d v u c p → IsEnd d v u c q
takes_end v u x c d p q e fits known less awake h a = (
  says_kept v x p q h a.0,
  (
    (recorded x p q a.1.0 awake h).0,
    λ l. let b = (takes_known v u x p q (e.0 (fits l)) awake h a.0 a.1.0).1 (omega (arith, l, less)) in (b.0, omega (arith, less, b.1)),
  ),
  λ f. keeps_synced u x p q (e.0 (omega (arith, f))) (a.1.1 (known f)).0 h (a.2 f),
)

pub less_known : (n : ℕ) (v u : Lacpdu) (c d : ℕ) (p : Machines) → d ≤ c → IsEnd n v u c p → IsEnd n v u d p
less_known n v u c d p l a = (a.0, (a.1.0, λ k. let b = a.1.1 (omega (arith, k, l)) in (b.0, omega (arith, l, b.1))), a.2)

-- a tick

-- no row of the receive machine is enabled that changes Selected
synced_rows : (u : Lacpdu) (c : ℕ) → 1 ≤ c → EnabledKeep (λ p. Known u c 0 p × Synced p) receive_rows
synced_rows u c l = grind (arith, nat_tests, receive_known u c 0, no)

pub ticks_end : (d : ℕ) (v u : Lacpdu) (c : ℕ) (p q : Machines) → (2 ≤ d → 1 ≤ c - 1) → RunsToRest receive_rows (count_down p) q
    → IsEnd d v u c p → IsEnd d v u (c - 1) q
ticks_end d v u c p q known h a = (
  runs_keep (Says v) receive_rows (λ p a. a, (λ p a. a, (λ p a. a, (λ p a. a, (λ p a. a, tt))))) (count_down p) q h a.0,
  receives u (c - 1) 1 (count_down p) q h (counts u c 0 p a.1),
  λ f. (times_keep (λ r. Known u (c - 1) 0 r × Synced r) receive_rows (synced_rows u (c - 1) (known f)) h.0 (count_down p) q h.1
      (counts u c 0 p a.1, a.2 f)).1,
)

-- the port is not kept silent: it is active, or knows that its partner is; and it has recorded Short Timeout, if that is
-- said
abbrev pub CanSound : Lacpdu → Lacpdu → Bool → ℕ → Type 0
CanSound v u fast c = ((activity v ≡ true) ⊎ ((1 ≤ c) × (activity u ≡ true))) × (fast ≡ true → (1 ≤ c) × (short_timeout u ≡ true))

pub calm : (d : ℕ) (v u : Lacpdu) (fast : Bool) (c : ℕ) (p : Machines) → CanSound v u fast c → IsEnd d v u c p → Calm fast p
calm d v u fast c p can a = grind (arith, nat_tests, not_silent)

-- what may stand beside it

pub constant_along : (A : Type 0) (v u : Lacpdu) (c d : ℕ) → Along (λ p. A) v u c d
constant_along A v u c d = grind (arith, nat_tests)

pub nothing_along : (v u : Lacpdu) (c d : ℕ) → Along (λ p. Unit {0}) v u c d
nothing_along = constant_along (Unit {0})

pub sounds_takes : (fast : Bool) (most : ℕ) (x : Lacpdu) → RowsKeep (Sounds fast most) (lacpdu_rows x)
sounds_takes fast most x = (λ p a. (raised _ p.ntt _ a.0, a.1), tt)

pub sounds_along : (v u : Lacpdu) (fast : Bool) (c d most : ℕ) → CanSound v u fast c → Along (Sounds fast most) v u c d
sounds_along v u fast c d most can = record {
  mux = λ ready p q h y. runs_keep (Sounds fast most) (mux_rows ready) (mux_sounds fast most ready) p q h y;
  periodic = λ p q h a y. periodic_runs fast most p q h (calm d v u fast c p can a) y;
  select = λ choice p none y. y;
  takes = λ x p q e awake h a y. takes_keep (Sounds fast most) x (sounds_takes fast most x) p q h y;
}

pub ticks_sounds : (d : ℕ) (v u : Lacpdu) (fast : Bool) (c most : ℕ) (p q : Machines) → CanSound v u fast c
    → RunsToRest receive_rows (count_down p) q → AtRest periodic_rows p → IsEnd d v u c p → Sounds fast most p → Sounds fast (most - 1) q
ticks_sounds d v u fast c most p q can h rest a y =
    runs_keep (Sounds fast (most - 1)) receive_rows (λ p a. a, (λ p a. a, (λ p a. a, (λ p a. a, (λ p a. a, tt))))) (count_down p) q h
    (counts_sounds fast most p rest (calm d v u fast c p can a).0 y)

-- the partner has just been recorded, and its Synchronization if the first number is 2
abbrev pub Learnt : ℕ → Lacpdu → ℕ → Machines → Type 0
Learnt d u most p = Known u most 0 p × (2 ≤ d → partner_synchronized p ≡ true)

pub all_true : (a b c : Bool) → a ≡ true → b ≡ true → c ≡ true → (a && b && c) ≡ true
all_true a b c e f g = rw (e, f, g) refl

pub maintained : (a b c : Bool) → (a ≡ true) ⊎ ((b ≡ true) × (c ≡ true)) → (a || (b && c)) ≡ true
maintained a b c h = grind (arith, nat_tests)

pub first_true : (a b : Bool) → a ≡ true → (a || b) ≡ true
first_true a b h = rw h refl

records_sync : (v u x : Lacpdu) (p : Machines) → (activity u ≡ true) ⊎ (activity v ≡ true) → SameActor x u → InSync v x → Says v p
    → recorded_synchronization x p ≡ true
records_sync v u x p on e i a = grind (arith, nat_tests, party_itself)

pub awake_fires : (b c : Bool) → b ≡ true → (if b then c else true) ≡ true → (c && b) ≡ false → ⊥
awake_fires b c e h f = grind (arith, nat_tests)

pub takes_sync : (v u x : Lacpdu) (p q : Machines) → (activity u ≡ true) ⊎ (activity v ≡ true) → SameActor x u → InSync v x
    → can_receive p ≡ true → ProcessesLacpdu x p q → Says v p → p.enabled ≡ true → partner_synchronized q ≡ true
takes_sync v u x p q on e i awake h a up = elim h [
  | inl f ↦ elim f [
    | inl g ↦ subst (λ r. partner_synchronized r ≡ true) (sym g.1)
        (ap (λ (b : StateBits). b.synchronization) (decoded (recorded_synchronization x p) x.actor) ∙ records_sync v u x p on e i a)
    | inr g ↦ absurd g
  ]
  | inr r ↦ absurd (awake_fires p.enabled (can_receive_in p.receive) up awake r.0.0)
]

pub takes_learnt : (v u x : Lacpdu) (c d : ℕ) (p q : Machines) → 1 ≤ d → (2 ≤ d → (activity u ≡ true) ⊎ (activity v ≡ true)) → Suits d v u x
    → can_receive p ≡ true → ProcessesLacpdu x p q → IsEnd d v u c p → Learnt d u (wait_of v) q
takes_learnt v u x c d p q there on e awake h a = (
  takes_known v u x p q (e.0 there) awake h a.0 a.1.0,
  λ f. takes_sync v u x p q (on f) (e.0 there) (e.1 f) awake h a.0 a.1.0,
)

pub lower_learnt : (d : ℕ) (u : Lacpdu) (m k : ℕ) (p : Machines) → k ≤ m → Learnt d u m p → Learnt d u k p
lower_learnt d u m k p l a = ((a.0.0, λ e. let b = a.0.1 (omega (arith, e, l)) in (b.0, omega (arith, l, b.1))), a.1)

pub learnt_along : (v u : Lacpdu) (c d most : ℕ) → most ≤ wait_of v → 1 ≤ d → (2 ≤ d → (activity u ≡ true) ⊎ (activity v ≡ true))
    → Along (Learnt d u most) v u c d
learnt_along v u c d most l there on = record {
  mux = mux_leaves (Learnt d u most);
  periodic = λ p q h a y. periodic_leaves (Learnt d u most) p q h y;
  select = λ choice p none y. y;
  takes = λ x p q e awake h a y. lower_learnt d u (wait_of v) most q l (takes_learnt v u x c d p q there on e awake h a);
}

pub both_along : (Y Z : Machines → Type 0) (v u : Lacpdu) (c d : ℕ) → Along Y v u c d → Along Z v u c d → Along (λ p. Y p × Z p) v u c d
both_along Y Z v u c d k l = record {
  mux = λ ready p q h y. (k.mux ready p q h y.0, l.mux ready p q h y.1);
  periodic = λ p q h a y. (k.periodic p q h a y.0, l.periodic p q h a y.1);
  select = λ choice p none y. (k.select choice p none y.0, l.select choice p none y.1);
  takes = λ x p q e awake h a y. (k.takes x p q e awake h a y.0, l.takes x p q e awake h a y.1);
}
