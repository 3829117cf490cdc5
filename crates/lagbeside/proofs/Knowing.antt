-- A port keeps what it recorded of an LACPDU while current_while has ticks left.
use Rattle.lagbeside.proofs.Common.{Bool, List, Some, [], ap, arith, false, if◌then◌else◌, inl, inr, refl, slice_get, slice_set, subst, suc, sym}
use Rattle.lagbeside.proofs.Common.{true, zero, ℕ, ◌&&◌, ◌+◌, ◌-◌, ◌==◌, ◌∙◌, ◌∷◌, ◌≡◌, ◌≤◌, nat_tests, none-some, same_Some, StateBits, bits_of}
use Rattle.lagbeside.proofs.Common.{with_synchronization, encode_then_decode, Info, Lacpdu, Machines, periodic_rows, receive_rows}
use Rattle.lagbeside.proofs.Common.{recorded_synchronization, AtRest, Fires, FiresTimes, Row, RunsToRest, count_down, Reply, SystemPort, Call}
use Rattle.lagbeside.proofs.Common.{Configure, OnlyPortChangesBy, ProcessesLacpdu, Receive, Restart, Set_link, ThenSettles, Tick, Transmit}
use Rattle.lagbeside.proofs.Common.{choice_with_link, can_receive, can_receive_in, none_enabled, IsSound, SystemState, port_numbers, named}
use Rattle.lagbeside.proofs.Common.{keeps_place, keeps_settled, can_receive_at_rest, Rises, all-get, ports_rise, LeavesUnheard, timeout_time}
use Rattle.lagbeside.specs.Knowing.{HasRecorded, IsKnown}
use Rattle.lagbeside.proofs.EachPort.{KeptByCall, KeptBySettling, OfEach, settling_each}
use Rattle.lagbeside.proofs.Hearing.{EnabledKeep, both, is_number, no, stays_up, times_keep}
use Rattle.lagbeside.proofs.OnePort.{AtPort, GoesOn, at_number, goes_on, same_place, settling_leaves}

-- the actor is recorded for so many ticks more
abbrev pub Recorded : Lacpdu → ℕ → Machines → Type 0
Recorded v most p = HasRecorded v p × (most ≤ p.current_while)

-- the link is up; and so it is, if there are any
abbrev pub Known : Lacpdu → ℕ → ℕ → Machines → Type 0
Known v most k p = (p.enabled ≡ true) × (1 ≤ most → Recorded v most p)

-- a machine at rest stays

never_fires : (rows : List Row) (p q : Machines) → AtRest rows p → Fires rows p q → ⊥
never_fires [] p q r h = h
never_fires (row ∷ rows) p q r h = elim h [ inl f ↦ no (sym r.0 ∙ f.0) | inr f ↦ never_fires rows p q r.1 f ]

pub rests_still : (rows : List Row) (n : ℕ) (p q : Machines) → AtRest rows p → FiresTimes rows n p q → q ≡ p
rests_still rows zero p q r run = run
rests_still rows (suc n) p q r run =
    absurd (never_fires rows run.0 q (subst (AtRest rows) (sym (rests_still rows n p run.0 r run.1)) r) run.2)

-- no row of the receive machine is enabled while there are ticks left

not_run_out : (b : Bool) (most n : ℕ) → (b && (n == 0)) ≡ true → 1 ≤ most → most ≤ n → ⊥
not_run_out b most n h l m = grind (arith, nat_tests)

pub receive_known : (v : Lacpdu) (most k : ℕ) → EnabledKeep (Known v most k) receive_rows
receive_known v most k = grind (arith, nat_tests)

pub receives : (v : Lacpdu) (most k : ℕ) (p q : Machines) → RunsToRest receive_rows p q → Known v most k p → Known v most k q
receives v most k p q h a = times_keep (Known v most k) receive_rows (receive_known v most k) h.0 p q h.1 a

-- settling

known_settles : (v : Lacpdu) (n most k : ℕ) → KeptBySettling (AtPort n (Known v most k))
known_settles v n most k = settling_leaves (AtPort n (Known v most k))

-- a tick
pub counts : (v : Lacpdu) (most k : ℕ) (p : Machines) → Known v most k p → Known v (most - 1) (k + 1) (count_down p)
counts v most k p a = (a.0, λ l. let b = a.1 (omega (arith, l)) in (b.0, omega (arith, b.1)))

tick_known : (v : Lacpdu) (most k : ℕ) (p q : Machines) → RunsToRest receive_rows (count_down p) q → AtRest periodic_rows p
    → Known v most k p → Known v (most - 1) (k + 1) q
tick_known v most k p q h rest a = receives v (most - 1) (k + 1) (count_down p) q h (counts v most k p a)

-- the calls
calls_known : (v : Lacpdu) (n most k : ℕ) (call : Call) (answer : Reply) → LeavesUnheard n call answer → (call ≡ Tick → ⊥)
    → KeptByCall (AtPort n (Known v most k)) call answer
calls_known v n most k Tick answer u t = absurd (t refl)
calls_known v n most k (Set_link m up) answer u t = λ max_links p q h a e.
    receives v most k (record p { enabled = up; choice = choice_with_link max_links up p.choice }) q h
    (stays_up (m == n) up u.0 (is_number m n e), (a e).1)
calls_known v n most k (Receive m octets) answer u t = grind (arith, nat_tests)
calls_known v n most k (Configure m change) answer u t = λ p q h a e. both (m == n) (is_number m n e) u.0
calls_known v n most k Restart answer u t = absurd (no (sym u.0))
calls_known v n most k (Transmit m) answer u t = λ p told a e. a e
calls_known v n most k call answer u t = tt

known_goes_on : (v : Lacpdu) (n : ℕ) → GoesOn (LeavesUnheard n) (Known v) n
known_goes_on v n = record { settles = known_settles v n; ticks = tick_known v; calls = calls_known v n; choice = λ most k p a. a }

-- what the LACPDU leaves

pub starts_with : (short : Bool) → timeout_time short ≤ (if short then 30 else 900)
starts_with short = grind (arith, nat_tests)

pub asleep : (c b : Bool) → b ≡ true → (if b then c else true) ≡ true → (c && b) ≡ false → ⊥
asleep c b e a k = grind (arith, nat_tests)

pub decoded : (t : Bool) (info : Info) → bits_of (with_synchronization t info.state) ≡ record (bits_of info.state) {
  synchronization = t;
}
decoded t info = encode_then_decode (record (bits_of info.state) { synchronization = t })

pub recorded : (v : Lacpdu) (p q : Machines) → p.enabled ≡ true → can_receive p ≡ true → ProcessesLacpdu v p q
    → (q.enabled ≡ true) × Recorded v (timeout_time q.short) q
recorded v p q up awake h = elim h [
  | inl f ↦ elim f [
    | inl g ↦ (let t = recorded_synchronization v p in
        subst (λ (r : Machines). (r.enabled ≡ true) × Recorded v (timeout_time r.short) r) (sym g.1) (
          up,
          (
            record {
              current = refl;
              party = ap (named v.actor) (decoded t v.actor);
              active = ap (λ (b : StateBits). b.activity) (decoded t v.actor);
              short = ap (λ (b : StateBits). b.timeout) (decoded t v.actor);
              present = refl;
              heard = refl;
            },
            starts_with p.short,
          ),
        ))
    | inr g ↦ absurd g
  ]
  | inr r ↦ absurd (asleep (can_receive_in p.receive) p.enabled up awake r.0.0)
]

pub placed : (l : List SystemPort) (i : ℕ) (w t : SystemPort) → slice_get l i ≡ Some w → slice_get (slice_set l i t) i ≡ Some t
placed [] i w t e = absurd (none-some w e)
placed (y ∷ ys) zero w t e = refl
placed (y ∷ ys) (suc i) w t e = placed ys i w t e

-- after the LACPDU
abbrev Begins : Lacpdu → Bool → Machines → Type 0
Begins v short p = Known v (timeout_time short) 0 p × (p.short ≡ short)

begins_settles : (v : Lacpdu) (n : ℕ) (short : Bool) → KeptBySettling (AtPort n (Begins v short))
begins_settles v n short = settling_leaves (AtPort n (Begins v short))

begins : (old mid : SystemState) (v : Lacpdu) (i : ℕ) (w x : SystemPort) → IsSound old → slice_get old.system_ports i ≡ Some w → w.port.enabled ≡ true
    → ThenSettles (OnlyPortChangesBy (Some i) (ProcessesLacpdu v)) old mid → slice_get mid.system_ports i ≡ Some x
    → Known v (timeout_time x.port.short) 0 x.port
begins old mid v i w x s at up h there = let z = h.1.0.0 in
    let q = h.1.0.1 in
    let same : w ≡ z = same_Some w z (sym at ∙ h.1.0.2) in
    let awake = can_receive_at_rest z.port
    (all-get (λ (c : SystemPort). none_enabled receive_rows c.port ≡ true) old.system_ports i z h.1.0.2 s.rested.0) in
    let first = recorded v z.port q (subst (λ (c : SystemPort). c.port.enabled ≡ true) same up) awake h.1.0.3 in
    let after : SystemPort = record z { port = q } in
    let rises : Rises 0 (port_numbers h.0.system_ports) =
    subst (Rises 0) (sym (keeps_place (ProcessesLacpdu v) (Some i) old h.0 h.1).same) (ports_rise old s.ports) in
    let here : slice_get h.0.system_ports i ≡ Some after =
    subst (λ l. slice_get l i ≡ Some after) (sym h.1.0.4) (placed old.system_ports i z after h.1.0.2) in
    let each = at_number (Begins v q.short) 0 h.0.system_ports i after rises here ((first.0, λ l. first.1), refl) in
    let settled = settling_each (AtPort z.number (Begins v q.short)) (begins_settles v z.number q.short) h.0 mid h.2 each in
    let numbers = (keeps_settled (OnlyPortChangesBy (Some i) (ProcessesLacpdu v)) old mid
    (λ m o. keeps_place (ProcessesLacpdu v) (Some i) old m o) h).same in
    let number = same_place old.system_ports mid.system_ports i z x numbers h.1.0.2 there in
    let known = all-get (λ (c : SystemPort). AtPort z.number (Begins v q.short) c.number c.port) mid.system_ports i x there
    settled number in
    subst (λ b. Known v (timeout_time b) 0 x.port) (sym known.1) known.0

pub is_known : (gives : ℕ → ℕ → ℕ → Type 0) → IsKnown gives
is_known gives old mid new v calls replies states i w x y s t at up h there run u few last =
    let most = timeout_time x.port.short in
    let end = goes_on (LeavesUnheard x.number) (Known v) gives most mid new calls replies states i x y (known_goes_on v x.number) t there
    (begins old mid v i w x s at up h there) run u last in
    (end.1.1 (omega (arith, few))).0

-- what holds of the port that processed an LACPDU, after the settling
pub takes_each : (Q : Machines → Type 0) (old new : SystemState) (x : Lacpdu) (k : ℕ) (z : SystemPort) → IsSound old → slice_get old.system_ports k ≡ Some z
    → ((q : Machines) → can_receive z.port ≡ true → ProcessesLacpdu x z.port q → Q q) → KeptBySettling (AtPort z.number Q)
    → ThenSettles (OnlyPortChangesBy (Some k) (ProcessesLacpdu x)) old new → OfEach (AtPort z.number Q) new.system_ports
takes_each Q old new x k z sound at does settles h = let y = h.1.0.0 in
    let q = h.1.0.1 in
    let same : z ≡ y = same_Some z y (sym at ∙ h.1.0.2) in
    let awake = can_receive_at_rest z.port
    (all-get (λ (c : SystemPort). none_enabled receive_rows c.port ≡ true) old.system_ports k z at sound.rested.0) in
    let first = does q awake (subst (λ (c : SystemPort). ProcessesLacpdu x c.port q) (sym same) h.1.0.3) in
    let after : SystemPort = record y { port = q } in
    let rises : Rises 0 (port_numbers h.0.system_ports) =
    subst (Rises 0) (sym (keeps_place (ProcessesLacpdu x) (Some k) old h.0 h.1).same) (ports_rise old sound.ports) in
    let here : slice_get h.0.system_ports k ≡ Some after =
    subst (λ l. slice_get l k ≡ Some after) (sym h.1.0.4) (placed old.system_ports k y after h.1.0.2) in
    let each = at_number Q 0 h.0.system_ports k after rises here first in
    settling_each (AtPort z.number Q) settles h.0 new h.2 (subst (λ (c : SystemPort). OfEach (AtPort c.number Q) h.0.system_ports)
    (sym same) each)
