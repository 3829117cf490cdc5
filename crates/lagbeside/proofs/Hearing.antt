-- A port that processes no LACPDU comes nearer to EXPIRED and DEFAULTED with each tick.
use Rattle.lagbeside.proofs.Common.{Bool, IsTrue, List, [], arith, false, if◌then◌else◌, inl, inr, not, refl, subst, suc, sym, true, zero, ℕ, ◌&&◌}
use Rattle.lagbeside.proofs.Common.{◌+◌, ◌-◌, ◌==◌, ◌∙◌, ◌∷◌, ◌≡◌, ◌≤◌, nat_tests, ReceiveState, Current, Defaulted, Expired, Initialize}
use Rattle.lagbeside.proofs.Common.{PortDisabled, Machines, periodic_rows, receive_rows, same_receive_state, AtRest, Fires, FiresTimes, Row}
use Rattle.lagbeside.proofs.Common.{RunsToRest, count_down, Reply, SystemPort, Call, Configure, Receive, Restart, Set_link, Tick, Transmit}
use Rattle.lagbeside.proofs.Common.{choice_with_link, can_receive_in, none_enabled, can_receive_at_rest, all-get, IsNoticed, LeavesUnheard}
use Rattle.lagbeside.proofs.Common.{tick_count, IsTimed, most_current_while, timeout_time}
use Rattle.lagbeside.proofs.EachPort.{KeptByCall, KeptBySettling}
use Rattle.lagbeside.proofs.OnePort.{AtPort, GoesOn, goes_on, settling_leaves}

-- DEFAULTED comes in so many ticks at the latest, and not before so many have gone
abbrev pub Within : ℕ → ℕ → ReceiveState → ℕ → Type 0
Within least most Current n = (n + 30 ≤ most) × (30 + least ≤ most)
Within least most Expired n = (n ≤ most) × (least ≤ most)
Within least most Defaulted n = Unit {0}
Within least most Initialize n = ⊥
Within least most PortDisabled n = ⊥

-- the link is up, and so it is of the port
abbrev pub Unheard : ℕ → ℕ → Machines → Type 0
Unheard least most p = (p.enabled ≡ true) × Within least most p.receive p.current_while

abbrev pub UnheardFor : ℕ → ℕ → Machines → Type 0
UnheardFor most k p = Unheard 1 most p

-- rows that are enabled

abbrev pub EnabledKeep : (Machines → Type 0) → List Row → Type 0
EnabledKeep P [] = Unit {0}
EnabledKeep P (row ∷ rows) = ((p : Machines) → IsTrue (row.enabled p) → P p → P (row.effect p)) × EnabledKeep P rows

fires_keep : (P : Machines → Type 0) (rows : List Row) → EnabledKeep P rows → (p q : Machines) → Fires rows p q → P p → P q
fires_keep P [] k p q h a = absurd h
fires_keep P (row ∷ rows) k p q h a = elim h [ inl f ↦ subst P (sym f.1) (k.0 p f.0 a) | inr f ↦ fires_keep P rows k.1 p q f a ]

pub times_keep : (P : Machines → Type 0) (rows : List Row) → EnabledKeep P rows → (n : ℕ) (p q : Machines) → FiresTimes rows n p q → P p → P q
times_keep P rows k zero p q h a = subst P (sym h) a
times_keep P rows k (suc n) p q h a = fires_keep P rows k h.0 q h.2 (times_keep P rows k n p h.0 h.1 a)

pub no : false ≡ true → ⊥
no e = cc

not_initialize : (least most n : ℕ) (r : ReceiveState) (g : Bool) → (same_receive_state Initialize r && g) ≡ true → Within least most r n → ⊥
not_initialize least most n r g h w = grind (arith, nat_tests)

not_disabled : (least most n : ℕ) (r : ReceiveState) (g : Bool) → (same_receive_state PortDisabled r && g) ≡ true → Within least most r n → ⊥
not_disabled least most n r g h w = grind (arith, nat_tests)

pub not_down : (a up : Bool) → (a && not up) ≡ true → up ≡ true → ⊥
not_down a up h e = grind (arith, nat_tests)

expires : (least most n : ℕ) (r : ReceiveState) (g : Bool) → (same_receive_state Current r && g) ≡ true → Within least most r n → (30 ≤ most) × (least ≤ most)
expires least most n r g h w = grind (arith, nat_tests)

receive_keeps : (least most : ℕ) → EnabledKeep (Unheard least most) receive_rows
receive_keeps least most = grind (arith, nat_tests, not_initialize, not_down, not_disabled, expires)

pub receives : (least most : ℕ) (p q : Machines) → RunsToRest receive_rows p q → Unheard least most p → Unheard least most q
receives least most p q h a = times_keep (Unheard least most) receive_rows (receive_keeps least most) h.0 p q h.1 a

-- settling

pub unheard_settles : (n most k : ℕ) → KeptBySettling (AtPort n (UnheardFor most k))
unheard_settles n most k = settling_leaves (AtPort n (UnheardFor most k))

-- a tick

pub counts : (most n : ℕ) (r : ReceiveState) → Within 1 most r n → Within 0 (most - 1) r (n - 1)
counts most n r w = grind (arith, nat_tests)

pub rested : (most n : ℕ) (r : ReceiveState) → (same_receive_state Expired r && (n == 0)) ≡ false → (same_receive_state Current r && (n == 0)) ≡ false
    → Within 0 most r n → Within 1 most r n
rested most n r e f w = grind (arith, nat_tests)

tick_unheard : (most k : ℕ) (p q : Machines) → RunsToRest receive_rows (count_down p) q → AtRest periodic_rows p → UnheardFor most k p
    → UnheardFor (most - 1) (k + 1) q
tick_unheard most k p q h rest a =
    let b = receives 0 (most - 1) (count_down p) q h (a.0, counts most p.current_while p.receive a.1) in
    (b.0, rested (most - 1) q.current_while q.receive h.2.1.1.1.0 h.2.1.1.1.1.0 b.1)

-- the calls

pub both : {A : Type 0} (b : Bool) → b ≡ true → b ≡ false → A
both b t f = grind (arith, nat_tests)

pub is_number : (m n : ℕ) → m ≡ n → (m == n) ≡ true
is_number m n e = grind (arith, nat_tests)

pub stays_up : (b up : Bool) → (b && not up) ≡ false → b ≡ true → up ≡ true
stays_up b up h e = grind (arith, nat_tests)

calls_unheard : (n most k : ℕ) (call : Call) (answer : Reply) → LeavesUnheard n call answer → (call ≡ Tick → ⊥)
    → KeptByCall (AtPort n (UnheardFor most k)) call answer
calls_unheard n most k Tick answer u t = absurd (t refl)
calls_unheard n most k (Set_link m up) answer u t = λ max_links p q h a e.
    receives 1 most (record p { enabled = up; choice = choice_with_link max_links up p.choice }) q h
    (stays_up (m == n) up u.0 (is_number m n e), (a e).1)
calls_unheard n most k (Receive m octets) answer u t = grind (arith, nat_tests)
calls_unheard n most k (Configure m change) answer u t = λ p q h a e. both (m == n) (is_number m n e) u.0
calls_unheard n most k Restart answer u t = absurd (no (sym u.0))
calls_unheard n most k (Transmit m) answer u t = λ p told a e. a e
calls_unheard n most k call answer u t = tt

unheard_goes_on : (n : ℕ) → GoesOn (LeavesUnheard n) UnheardFor n
unheard_goes_on n = record { settles = unheard_settles n; ticks = tick_unheard; calls = calls_unheard n; choice = λ most k p a. a }

-- where it begins and ends

pub begins : (r : ReceiveState) (short : Bool) (n : ℕ) → can_receive_in r ≡ true → n ≤ most_current_while r → n ≤ timeout_time short
    → Within 1 (timeout_time short + 30) r n
begins r short n c l t = grind (arith, nat_tests)

pub when_up : (up : Bool) (b : Bool) → up ≡ true → (if up then b else true) ≡ true → b ≡ true
when_up up b e h = grind (arith, nat_tests)

not_current : (most n : ℕ) (r : ReceiveState) → most ≤ 30 → Within 1 most r n → r ≡ Current → ⊥
not_current most n r l w e = grind (arith, nat_tests)

pub is_defaulted : (most n : ℕ) (r : ReceiveState) → most ≡ 0 → Within 1 most r n → r ≡ Defaulted
is_defaulted most n r l w = grind (arith, nat_tests)

pub is_noticed : (gives : ℕ → ℕ → ℕ → Type 0) → IsNoticed gives
is_noticed gives old new calls replies states i x y s t at within up h u there = let awake = can_receive_at_rest x.port
    (all-get (λ (z : SystemPort). none_enabled receive_rows z.port ≡ true) old.system_ports i x at s.rested.0) in
    let timed = all-get (λ (z : SystemPort). IsTimed z.port) old.system_ports i x at t in
    let most = timeout_time x.port.short + 30 in
    let first : UnheardFor most 0 x.port = (
      up,
      begins x.port.receive x.port.short x.port.current_while
          (when_up x.port.enabled (can_receive_in x.port.receive) up awake) timed.0 within,
    ) in
    let end = goes_on (LeavesUnheard x.number) UnheardFor gives most old new calls replies states i x y (unheard_goes_on x.number) s at
    first h u there in
    grind (arith, nat_tests, tick_count, not_current, is_defaulted)
