-- A port that is kept from silence by an active partner alone: it is CURRENT, or EXPIRED and about to send.
use Rattle.lagprogress.proofs.Common.{Bool, ap, arith, false, inl, inr, refl, subst, suc, sym, true, ℕ, ◌&&◌, ◌+◌, ◌-◌, ◌==◌, ◌∙◌, ◌≡◌, ◌≤◌, ◌⊎◌}
use Rattle.lagprogress.proofs.Common.{nat_tests, Choice, State, StateBits, is_selected, bits_of, with_synchronization, with_timeout}
use Rattle.lagprogress.proofs.Common.{encode_then_decode, Lacpdu, ReceiveState, Current, Expired, Initialize, PortDisabled, Machines, mux_rows}
use Rattle.lagprogress.proofs.Common.{RunsPeriodic, periodic_rows, receive_rows, same_receive_state, AtRest, RunsToRest, count_down, HasRecorded}
use Rattle.lagprogress.proofs.Common.{IsTimed, timeout_time, EnabledKeep, no, not_down, times_keep, Recorded, mux_leaves, periodic_leaves, Calm}
use Rattle.lagprogress.proofs.Common.{Sounds, counts_sounds, mux_sounds, not_gone, not_silent, periodic_runs, sounds_first, sounds_in_slow, runs_keep}
use Rattle.lagprogress.proofs.Common.{takes_keep}
use Rattle.lagprogress.proofs.EndFacts.{Along, activity, short_timeout, sounds_takes, takes_known, each_row, both_along, constant_along, wait_of}
use Rattle.lagprogress.proofs.OneRound.{still_sounds}
use Rattle.lagprogress.proofs.SeveralTicks.{TickPasses, no_less}

-- EXPIRED for so many ticks more at the least; the partner is active, and Short Timeout stands recorded of it
abbrev Lapsed : ℕ → Machines → Type 0
Lapsed e p = (p.receive ≡ Expired) × ((bits_of p.partner.state).activity ≡ true) × ((bits_of p.partner.state).timeout ≡ true)
    × (e ≤ p.current_while)

-- settling keeps it, and the partner is active
record Kept (T : Machines → Type 0) : Type 0 where
  pub mux : (ready : Bool) (p q : Machines) → RunsToRest (mux_rows ready) p q → T p → T q
  pub periodic : (p q : Machines) → RunsPeriodic p q → p.enabled ≡ true → T p → T q
  pub select : (choice : Choice) (p : Machines) → is_selected p.choice ≡ false → T p → T (record p { choice = choice })
  pub active : (p : Machines) → T p → (bits_of p.partner.state).activity ≡ true

lapsed_kept : (e : ℕ) → Kept (Lapsed e)
lapsed_kept e = record {
  mux = mux_leaves (Lapsed e);
  periodic = λ p q h up y. periodic_leaves (Lapsed e) p q h y;
  select = λ choice p none y. y;
  active = λ p y. y.1;
}

lapsed_calm : (e : ℕ) (p : Machines) → p.enabled ≡ true → Lapsed e p → Calm true p
lapsed_calm e p up y = (not_silent p.enabled p.active (bits_of p.partner.state).activity up (inr y.1), λ f. y.2)

some_kept : (T : ℕ → Machines → Type 0) → ((i : ℕ) → Kept (T i)) → Kept (λ p. (i : ℕ) × T i p)
some_kept T k = record {
  mux = λ ready p q h y. (y.0, (k y.0).mux ready p q h y.1);
  periodic = λ p q h up y. (y.0, (k y.0).periodic p q h up y.1);
  select = λ choice p none y. (y.0, (k y.0).select choice p none y.1);
  active = λ p y. (k y.0).active p y.1;
}

either_kept : (S T : Machines → Type 0) → Kept S → Kept T → Kept (λ p. S p ⊎ T p)
either_kept S T k l = record {
  mux = λ ready p q h y. elim y [ inl a ↦ inl (k.mux ready p q h a) | inr a ↦ inr (l.mux ready p q h a) ];
  periodic = λ p q h up y. elim y [ inl a ↦ inl (k.periodic p q h up a) | inr a ↦ inr (l.periodic p q h up a) ];
  select = λ choice p none y. elim y [ inl a ↦ inl (k.select choice p none a) | inr a ↦ inr (l.select choice p none a) ];
  active = λ p y. elim y [ inl a ↦ k.active p a | inr a ↦ l.active p a ];
}

recorded_kept : (u : Lacpdu) → activity u ≡ true → Kept (Recorded u 1)
recorded_kept u on = record {
  mux = mux_leaves (Recorded u 1);
  periodic = λ p q h up y. periodic_leaves (Recorded u 1) p q h y;
  select = λ choice p none y. y;
  active = λ p y. y.0.active ∙ on;
}

-- the port has recorded an active partner, or T holds; and an LACPDU is due in so many ticks, at the pace of SLOW
abbrev pub Phase : Lacpdu → (Machines → Type 0) → ℕ → Machines → Type 0
Phase u T k p = Sounds false k p × (Recorded u 1 p ⊎ T p)

some_wait : (b : Bool) → 1 ≤ timeout_time b
some_wait b = grind (arith, nat_tests)

slow_calm : (T : Machines → Type 0) (p : Machines) → Kept T → p.enabled ≡ true → T p → Calm false p
slow_calm T p k up y = grind (arith, nat_tests, not_silent, no)

phase_along : (v u : Lacpdu) (T : Machines → Type 0) (d k : ℕ) → activity u ≡ true → 1 ≤ d → Kept T → Along (Phase u T k) v u 0 d
phase_along v u T d k on there kept = let both = either_kept (Recorded u 1) T (recorded_kept u on) kept in
    record {
      mux = λ ready p q h y. (runs_keep (Sounds false k) (mux_rows ready) (mux_sounds false k ready) p q h y.0, both.mux ready p q h y.1);
      periodic = λ p q h a y. (
        periodic_runs false k p q h (slow_calm (λ r. Recorded u 1 r ⊎ T r) p both a.1.0 y.1) y.0,
        both.periodic p q h a.1.0 y.1,
      );
      select = λ choice p none y. (y.0, both.select choice p none y.1);
      takes = λ x p q e awake h a y. (
        takes_keep (Sounds false k) x (sounds_takes false k x) p q h y.0,
        (let known = takes_known v u x p q (e.0 there) awake h a.0 a.1.0 in
            let some = some_wait (short_timeout v) in
            let r = known.1 some in
            inl (r.0, omega (arith, some, r.1))),
      );
    }

-- a tick

not_in : (from : ReceiveState → Bool) (r to : ReceiveState) (b : Bool) → r ≡ to → from to ≡ false → (from r && b) ≡ true → ⊥
not_in from r to b e f h = no (sym (ap (λ c. c && b) f) ∙ subst (λ x. (from x && b) ≡ true) e h)

some_left : (b : Bool) (n e : ℕ) → (b && (n == 0)) ≡ true → 1 ≤ e → e ≤ n → ⊥
some_left b n e h l m = grind (arith, nat_tests)

-- the link is up, and so it is
abbrev UpAnd : (Machines → Type 0) → Machines → Type 0
UpAnd T p = (p.enabled ≡ true) × T p

lapsed_rows : (e : ℕ) → 1 ≤ e → EnabledKeep (UpAnd (Lapsed e)) receive_rows
lapsed_rows e l = grind (arith, nat_tests, not_in, not_down, some_left)

-- what the partner's state becomes in EXPIRED
pub expired_active : (st : State) → (bits_of (with_timeout true (with_synchronization false st))).activity ≡ (bits_of st).activity
expired_active st =
    ap (λ (b : StateBits). b.activity) (encode_then_decode (record (bits_of (with_synchronization false st)) { timeout = true }))
    ∙ ap (λ (b : StateBits). b.activity) (encode_then_decode (record (bits_of st) { synchronization = false }))

expired_short : (st : State) → (bits_of (with_timeout true (with_synchronization false st))).timeout ≡ true
expired_short st =
    ap (λ (b : StateBits). b.timeout) (encode_then_decode (record (bits_of (with_synchronization false st)) { timeout = true }))

-- A port that heard its partner is CURRENT, or in EXPIRED, which begins with 30 ticks: for so many ticks more at the least.
abbrev pub Keen : Lacpdu → ℕ → Machines → Type 0
Keen u e p = (HasRecorded u p × (e ≤ p.current_while + 30)) ⊎ Lapsed e p

gone : (b : Bool) (n e : ℕ) → (b && (n == 0)) ≡ true → e ≤ n + 30 → e ≤ 30
gone b n e h l = grind (arith, nat_tests)

keen_rows : (u : Lacpdu) (e : ℕ) → activity u ≡ true → 1 ≤ e → EnabledKeep (UpAnd (Keen u e)) receive_rows
keen_rows u e on some = each_row (grind (arith, nat_tests, not_in)) (grind (arith, nat_tests, not_down)) (grind (arith, nat_tests, not_in))
    (grind (arith, nat_tests, not_in, some_left)) (grind (arith, nat_tests, not_in, gone, expired_active, expired_short))

running : (r : ReceiveState) (n : ℕ) → r ≡ Current → (same_receive_state Current r && (n == 0)) ≡ false → 1 ≤ n
running r n e h = not_gone n (subst (λ x. (same_receive_state Current x && (n == 0)) ≡ false) e h)

tick_slow : (k : ℕ) (T : Machines → Type 0) (p q : Machines) → Kept T → p.enabled ≡ true → RunsToRest receive_rows (count_down p) q
    → AtRest periodic_rows p → Sounds false k p → T p → Sounds false (k - 1) q
tick_slow k T p q kept up h rest y t =
    runs_keep (Sounds false (k - 1)) receive_rows (λ p a. a, (λ p a. a, (λ p a. a, (λ p a. a, (λ p a. a, tt))))) (count_down p) q h
    (counts_sounds false k p rest (slow_calm T p kept up t).0 y)

-- EXPIRED for so many ticks more at the least, and an LACPDU is due in so many
abbrev Ending : ℕ → ℕ → Machines → Type 0
Ending e m p = Lapsed e p × Sounds true m p

ending_kept : (e m : ℕ) → Kept (Ending e m)
ending_kept e m = record {
  mux = λ ready p q h y. ((lapsed_kept e).mux ready p q h y.0, runs_keep (Sounds true m) (mux_rows ready) (mux_sounds true m ready) p q h y.1);
  periodic = λ p q h up y. ((lapsed_kept e).periodic p q h up y.0, periodic_runs true m p q h (lapsed_calm e p up y.0) y.1);
  select = λ choice p none y. y;
  active = λ p y. y.0.1;
}

-- so it is behind a ticks of a round of no more than N, which ends before EXPIRED does
abbrev pub Tail : ℕ → ℕ → Machines → Type 0
Tail N a p = (i : ℕ) × Ending (i + (N + 1) - a) (i - a) p

tail_kept : (N a : ℕ) → Kept (Tail N a)
tail_kept N a = some_kept (λ i. Ending (i + (N + 1) - a) (i - a)) (λ i. ending_kept (i + (N + 1) - a) (i - a))

abbrev pub NewTail : ℕ → ℕ → Machines → Type 0
NewTail N a p = Lapsed 30 p ⊎ Tail N a p

new_kept : (N a : ℕ) → Kept (NewTail N a)
new_kept N a = either_kept (Lapsed 30) (Tail N a) (lapsed_kept 30) (tail_kept N a)

-- CURRENT with its partner recorded, or EXPIRED; and an LACPDU is not due before the next tick
abbrev pub LastingIn : ℕ → Lacpdu → ℕ → Machines → Type 0
LastingIn N u k p = (1 ≤ k) × Phase u (Tail N 0) k p

tick_recorded : (u : Lacpdu) (p q : Machines) → activity u ≡ true → p.enabled ≡ true → RunsToRest receive_rows (count_down p) q → Recorded u 1 p
    → Recorded u 1 q ⊎ Lapsed 30 q
tick_recorded u p q on up h r =
    let keen = times_keep (UpAnd (Keen u 30)) receive_rows (keen_rows u 30 on (omega arith)) h.0 (count_down p) q h.1 (up, inl (r.0, omega arith)) in
    let end : HasRecorded u q ⊎ Lapsed 30 q = elim keen.1 [ inl y ↦ inl y.0 | inr y ↦ inr y ] in
    grind (arith, nat_tests, running)

tick_tail : (N a : ℕ) (p q : Machines) → suc a ≤ N → p.enabled ≡ true → RunsToRest receive_rows (count_down p) q → AtRest periodic_rows p → Tail N a p
    → Tail N (suc a) q
tick_tail N a p q l up h rest (i, (lapsed, sounds)) = let e : ℕ = i + (N + 1) - suc a in
    let less : Lapsed e (count_down p) = (let m = lapsed.3 in (lapsed.0, lapsed.1, lapsed.2, omega (arith, m))) in
    let end = times_keep (UpAnd (Lapsed e)) receive_rows (lapsed_rows e (omega (arith, l))) h.0 (count_down p) q h.1 (up, less) in (
      i,
      (
        end.1,
        subst (λ m. Sounds true m q) (omega arith)
            (runs_keep (Sounds true (i - a - 1)) receive_rows (λ p a. a, (λ p a. a, (λ p a. a, (λ p a. a, (λ p a. a, tt))))) (count_down p) q h
            (counts_sounds true (i - a) p rest (lapsed_calm (i + (N + 1) - a) p up lapsed).0 sounds)),
      ),
    )

none_left : (a : ℕ) → 0 ≡ 0 - a
none_left a = omega arith

pub lasting_ticks : (v u : Lacpdu) (d N n k : ℕ) → N ≤ 6 → n ≤ N → activity u ≡ true → 1 ≤ d
    → TickPasses n (λ a. Phase u (Tail N a) (k - a)) (λ a. Phase u (NewTail N a) (k - a)) (LastingIn N u (k - n)) v u 0 d
lasting_ticks v u d N n k small few on there = record {
  ticks = λ a l p q h rest f y. (
    subst (λ m. Sounds false m q) (omega arith) (tick_slow (k - a) (λ r. Recorded u 1 r ⊎ Tail N a r) p q (both a) f.1.0 h rest y.0 y.1),
    elim y.1 [
      | inl r ↦ elim (tick_recorded u p q on f.1.0 h r) [ inl z ↦ inl z | inr z ↦ inr (inl z) ]
      | inr t ↦ inr (inr (tick_tail N a p q (omega (arith, l, few)) f.1.0 h rest t))
    ],
  );
  ticked = λ a l. subst (λ m. Along (Phase u (NewTail N a) (k - a)) v u m d) (none_left a) (phase_along v u (NewTail N a) d (k - a) on there (new_kept N a));
  rests = λ a l p rest timed f y. (
    y.0,
    elim y.1 [
      | inl r ↦ inl r
      | inr t ↦ elim t [
        | inl lapsed ↦ (let m = lapsed.3 in
            inr (
              11 + a,
              (
                (lapsed.0, lapsed.1, lapsed.2, omega (arith, m, small)),
                subst (λ i. Sounds true i p) (eleven a) (sounds_first true p rest timed (lapsed_calm 30 p f.1.0 lapsed)),
              ),
            ))
        | inr tail ↦ inr tail
      ]
    ],
  );
  waits = λ a l. subst (λ m. Along (Phase u (Tail N a) (k - a)) v u m d) (none_left a) (phase_along v u (Tail N a) d (k - a) on there (tail_kept N a));
  asks = λ p rest timed f y not. (
    still_sounds false (k - n) p rest (slow_calm (λ r. Recorded u 1 r ⊎ Tail N n r) p (both n) f.1.0 y.1).0 not y.0,
    (
      y.0,
      elim y.1 [
        | inl r ↦ inl r
        | inr (i, (lapsed, sounds)) ↦ (let more = still_sounds true (i - n) p rest (lapsed_calm (i + (N + 1) - n) p f.1.0 lapsed).0 not sounds in
            inr (
              i - n,
              (subst (λ e. Lapsed e p) (omega (arith, more)) lapsed, subst (λ m. Sounds true m p) (sym (no_less (i - n))) sounds),
            ))
      ],
    ),
  );
  asked = subst (λ m. Along (LastingIn N u (k - n)) v u m d) (none_left n) (both_along (λ p. 1 ≤ k - n) (Phase u (Tail N 0) (k - n)) v u 0 d
      (constant_along (1 ≤ k - n) v u 0 d) (phase_along v u (Tail N 0) d (k - n) on there (tail_kept N 0)));
}
  where
    both : (a : ℕ) → Kept (λ r. Recorded u 1 r ⊎ Tail N a r)
    both a = either_kept (Recorded u 1) (Tail N a) (recorded_kept u on) (tail_kept N a)

    eleven : (a : ℕ) → 11 ≡ 11 + a - a
    eleven a = omega arith

-- a port that has just heard an active partner with Long Timeout
pub begins_lasting_in : (N : ℕ) (u : Lacpdu) (p : Machines) → activity u ≡ true → short_timeout u ≡ false → p.enabled ≡ true → AtRest periodic_rows p
    → IsTimed p → Recorded u 1 p → LastingIn N u 300 p
begins_lasting_in N u p on long up rest timed r = (
  omega arith,
  (sounds_in_slow p rest timed (slow_calm (Recorded u 1) p (recorded_kept u on) up r) (r.0.short ∙ long), inl r),
)

-- and before it
pub lasting_in_now : (N : ℕ) (u : Lacpdu) (k : ℕ) (p : Machines) → activity u ≡ true → LastingIn N u k p → (bits_of p.partner.state).activity ≡ true
lasting_in_now N u k p on y = (either_kept (Recorded u 1) (Tail N 0) (recorded_kept u on) (tail_kept N 0)).active p y.1.1

-- Its partner is active and has Short Timeout: so it sends fast.
abbrev pub IsQuick : Lacpdu → Type 0
IsQuick u = (activity u ≡ true) × (short_timeout u ≡ true)

pub keen_active : (u : Lacpdu) (e : ℕ) (p : Machines) → IsQuick u → Keen u e p → (bits_of p.partner.state).activity ≡ true
keen_active u e p quick y = elim y [ inl r ↦ r.0.active ∙ quick.0 | inr l ↦ l.1 ]

keen_short : (u : Lacpdu) (e : ℕ) (p : Machines) → IsQuick u → Keen u e p → (bits_of p.partner.state).timeout ≡ true
keen_short u e p quick y = elim y [ inl r ↦ r.0.short ∙ quick.1 | inr l ↦ l.2 ]

pub keen_calm : (u : Lacpdu) (e : ℕ) (p : Machines) → IsQuick u → p.enabled ≡ true → Keen u e p → Calm true p
keen_calm u e p quick up y = (
  not_silent p.enabled p.active (bits_of p.partner.state).activity up (inr (keen_active u e p quick y)),
  λ f. keen_short u e p quick y,
)

pub keen_ticks : (u : Lacpdu) (e : ℕ) (p q : Machines) → IsQuick u → 2 ≤ e → p.enabled ≡ true → RunsToRest receive_rows (count_down p) q → Keen u e p
    → Keen u (e - 1) q
keen_ticks u e p q quick more up h y = let less : Keen u (e - 1) (count_down p) = elim y [
  | inl r ↦ (let l = r.1 in inl (r.0, omega (arith, l)))
  | inr l ↦ (let m = l.3 in inr (l.0, l.1, l.2, omega (arith, m)))
] in
    (times_keep (UpAnd (Keen u (e - 1))) receive_rows (keen_rows u (e - 1) quick.0 (omega (arith, more))) h.0 (count_down p) q h.1 (up, less)).1

-- beside what is known

pub keen_along : (v u : Lacpdu) (c d e : ℕ) → 1 ≤ d → e ≤ wait_of v + 30 → Along (Keen u e) v u c d
keen_along v u c d e there less = record {
  mux = mux_leaves (Keen u e);
  periodic = λ p q h a y. periodic_leaves (Keen u e) p q h y;
  select = λ choice p none y. y;
  takes = λ x p q same awake h a y. (let r = (takes_known v u x p q (same.0 there) awake h a.0 a.1.0).1 (some_wait (short_timeout v)) in
      let l = r.1 in
      inl (r.0, omega (arith, l, less)));
}

-- and an LACPDU is due in so many ticks
abbrev pub Brisk : Lacpdu → ℕ → ℕ → Machines → Type 0
Brisk u m e p = Sounds true m p × Keen u e p

brisk_along : (v u : Lacpdu) (c d m e : ℕ) → IsQuick u → 1 ≤ d → e ≤ wait_of v + 30 → Along (Brisk u m e) v u c d
brisk_along v u c d m e quick there less = let k = keen_along v u c d e there less in record {
  mux = λ ready p q h y. (runs_keep (Sounds true m) (mux_rows ready) (mux_sounds true m ready) p q h y.0, k.mux ready p q h y.1);
  periodic = λ p q h a y. (periodic_runs true m p q h (keen_calm u e p quick a.1.0 y.1) y.0, k.periodic p q h a y.1);
  select = λ choice p none y. y;
  takes = λ x p q same awake h a y. (takes_keep (Sounds true m) x (sounds_takes true m x) p q h y.0, k.takes x p q same awake h a y.1);
}

brisk_ticks : (u : Lacpdu) (m e : ℕ) (p q : Machines) → IsQuick u → 2 ≤ e → p.enabled ≡ true → RunsToRest receive_rows (count_down p) q
    → AtRest periodic_rows p → Brisk u m e p → Brisk u (m - 1) (e - 1) q
brisk_ticks u m e p q quick more up h rest y = (
  runs_keep (Sounds true (m - 1)) receive_rows (λ p a. a, (λ p a. a, (λ p a. a, (λ p a. a, (λ p a. a, tt))))) (count_down p) q h
      (counts_sounds true m p rest (keen_calm u e p quick up y.1).0 y.0),
  keen_ticks u e p q quick more up h y.1,
)

pub brisk_passes : (v u : Lacpdu) (n c d m e : ℕ) → IsQuick u → 1 ≤ d → n + 1 ≤ e → e ≤ wait_of v + 30
    → TickPasses n (λ a. Brisk u (m - a) (e - a)) (λ a. Brisk u (m - a) (e - a)) (λ p. (1 ≤ m - n) × Brisk u (m - n) (e - n) p) v u c d
brisk_passes v u n c d m e quick there more less = record {
  ticks = λ a l p q r rest f y. subst (λ k. Brisk u k (e - suc a) q) (omega arith) (subst (λ k. Brisk u (m - a - 1) k q) (omega arith)
      (brisk_ticks u (m - a) (e - a) p q quick (omega (arith, more, l)) f.1.0 r rest y));
  ticked = λ a l. brisk_along v u (c - a) d (m - a) (e - a) quick there (omega (arith, less));
  rests = λ a l p rest timed f y. y;
  waits = λ a l. brisk_along v u (c - a) d (m - a) (e - a) quick there (omega (arith, less));
  asks = λ p rest timed f y not. (still_sounds true (m - n) p rest (keen_calm u (e - n) p quick f.1.0 y.1).0 not y.0, y);
  asked = both_along (λ p. 1 ≤ m - n) (Brisk u (m - n) (e - n)) v u (c - n) d (constant_along (1 ≤ m - n) v u (c - n) d)
      (brisk_along v u (c - n) d (m - n) (e - n) quick there (omega (arith, less)));
}
