-- The ticks until something happens are one fewer after a tick in which nothing is soon.
use Rattle.lagsystem.proofs.Common.{Bool, List, None, Option, Some, [], ap, arith, false, if◌then◌else◌, is_some, map, refl, suc, zero, ℕ, ◌&&◌, ◌+◌}
use Rattle.lagsystem.proofs.Common.{◌-◌, ◌<◌, ◌∙◌, ◌∷◌, ◌≡◌, ◌≤◌, leb-true, lt-ltb, nat_tests, AllByRecursion, Machines, aged, Assignment, marker_due}
use Rattle.lagsystem.proofs.Common.{Table, assignment_of, sooner, ticks_until_next_wanted, ticks_until_wanted, by_first, by_second, same_soonest}
use Rattle.lagsystem.proofs.Common.{SystemPort, counted, fewer, waited, SystemState, soonest, ticks_in_window, ticks_until_due_on}
use Rattle.lagsystem.proofs.Common.{ticks_until_expired, ticks_until_frame, ticks_until_room}
use Rattle.distributor.specs.Waiting.{soonest_below}
use Rattle.lagsystem.proofs.QuietTicks.{Lasts, PortLasts, TableTicked, aged_on, frame_not, still_not_due, table_lasts, waits_on}

-- numbers of ticks

pub fewer_sooner : (m : ℕ) (a b : Option ℕ) → sooner (fewer m a) (fewer m b) ≡ fewer m (sooner a b)
fewer_sooner m a b = grind (arith, nat_tests)

pub fewer_twice : (m n : ℕ) (a : Option ℕ) → fewer m (fewer n a) ≡ fewer (n + m) a
fewer_twice m n a = grind (arith, nat_tests)

pub none_fewer : (a : Option ℕ) → a ≡ fewer 0 a
none_fewer a = grind (arith, nat_tests)

fewer_soonest : (m : ℕ) (xs : List (Option ℕ)) → soonest (map (fewer m) xs) ≡ fewer m (soonest xs)
fewer_soonest m [] = refl
fewer_soonest m (x ∷ xs) = ap (sooner (fewer m x)) (fewer_soonest m xs) ∙ fewer_sooner m x (soonest xs)

-- timers

running : (t : ℕ) → 0 < t → ticks_until_expired t ≡ Some t
running t l = ap (λ b. if b then Some t else None) (lt-ltb 0 t l)

timer_left : (j t : ℕ) → Lasts j (ticks_until_expired t) → ticks_until_expired (t - 1) ≡ fewer 1 (ticks_until_expired t)
timer_left j t h = grind (arith, nat_tests)

-- the transmit window

window_left : (j : ℕ) (ages : List ℕ) → Lasts j (soonest (map ticks_in_window ages))
    → soonest (map ticks_in_window (aged ages)) ≡ fewer 1 (soonest (map ticks_in_window ages))
window_left j [] h = refl
window_left j (a ∷ more) h =
    let rest = window_left j more (by_second (Some (j + 2)) (ticks_in_window a) (soonest (map ticks_in_window more)) h) in
    let here : j + 2 ≤ 11 - a = leb-true (j + 2) (11 - a)
    (by_first (Some (j + 2)) (ticks_in_window a) (soonest (map ticks_in_window more)) h) in
    let young : a + 1 < 11 = omega (arith, here) in
    let one : 11 - (a + 1) ≡ (11 - a) - 1 = omega arith in
    ap (λ l. soonest (map ticks_in_window l)) (aged_on a more young)
    ∙ ((λ i. sooner (Some (one i)) (rest i)) ∙ fewer_sooner 1 (ticks_in_window a) (soonest (map ticks_in_window more)))

room_left : (j : ℕ) (p : Machines) (b : Bool) → Lasts j (if b then soonest (map ticks_in_window p.ages) else None)
    → (if b then soonest (map ticks_in_window (aged p.ages)) else None) ≡ fewer 1 (if b then soonest (map ticks_in_window p.ages) else None)
room_left j p b h = grind (arith, nat_tests, window_left)

-- ports

abbrev now_if : Bool → Option ℕ
now_if b = if b then Some 0 else None

no_frame : (b : Bool) → b ≡ false → now_if b ≡ None
no_frame b e = ap now_if e

frame_left : (j : ℕ) (s t : SystemState) (x : SystemPort) → PortLasts j s x → is_some (marker_due t.table x.number) ≡ is_some (marker_due s.table x.number)
    → ticks_until_frame t (counted x) ≡ fewer 1 (ticks_until_frame s x)
frame_left j s t x h m = grind (arith, nat_tests, frame_not, no_frame, still_not_due)

port_left : (j : ℕ) (s t : SystemState) (x : SystemPort) → PortLasts j s x → is_some (marker_due t.table x.number) ≡ is_some (marker_due s.table x.number)
    → ticks_until_due_on t (counted x) ≡ fewer 1 (ticks_until_due_on s x)
port_left j s t x h m = let frame = frame_left j s t x h m in
    let current = timer_left j x.port.current_while h.current_while in
    let periodic = timer_left j x.port.periodic_timer h.periodic_timer in
    let wait = timer_left j x.port.wait_while h.wait_while in
    let room = room_left j x.port (x.port.enabled && x.port.ntt) h.room in
    (λ i. soonest (frame i ∷ current i ∷ periodic i ∷ wait i ∷ room i ∷ []))
    ∙ fewer_soonest 1
    (ticks_until_frame s x
    ∷ ticks_until_expired x.port.current_while
    ∷ ticks_until_expired x.port.periodic_timer
    ∷ ticks_until_expired x.port.wait_while
    ∷ ticks_until_room x.port
    ∷ [])

pub each_left : (j : ℕ) (s t : SystemState) (xs : List SystemPort) → ((n : ℕ) → is_some (marker_due t.table n) ≡ is_some (marker_due s.table n))
    → AllByRecursion (PortLasts j s) xs → soonest (map (ticks_until_due_on t) (map counted xs)) ≡ fewer 1 (soonest (map (ticks_until_due_on s) xs))
each_left j s t [] m h = refl
each_left j s t (x ∷ xs) m h = let here = port_left j s t x h.0 (m x.number) in
    let more = each_left j s t xs m h.1 in
    (λ i. sooner (here i) (more i)) ∙ fewer_sooner 1 (ticks_until_due_on s x) (soonest (map (ticks_until_due_on s) xs))

-- conversations

wait_left : (a : Assignment) → ticks_until_wanted (waited 1 a) ≡ fewer 1 (ticks_until_wanted a)
wait_left a = grind (arith, nat_tests)

below_left : (f : ℕ → Option ℕ) (n : ℕ) → soonest_below (λ k. fewer 1 (f k)) n ≡ fewer 1 (soonest_below f n)
unfolding soonest_below
below_left f zero = refl
below_left f (suc n) = ap (λ x. sooner x (fewer 1 (f n))) (below_left f n) ∙ fewer_sooner 1 (soonest_below f n) (f n)

pub table_left : (j : ℕ) (s t : Table) → TableTicked s t → Lasts j (ticks_until_next_wanted s) → ticks_until_next_wanted t ≡ fewer 1 (ticks_until_next_wanted s)
table_left j s t k h =
    (λ i. soonest_below (λ a. soonest_below (λ c. ticks_until_wanted (assignment_of t (a + 1) c)) (k.conversations i)) (k.aggs i))
    ∙ (same_soonest (λ a. soonest_below (λ c. ticks_until_wanted (assignment_of t (a + 1) c)) s.conversations)
    (λ a. fewer 1 (soonest_below (λ c. ticks_until_wanted (assignment_of s (a + 1) c)) s.conversations)) s.aggs
    (λ a l. same_soonest (λ c. ticks_until_wanted (assignment_of t (a + 1) c)) (λ c. fewer 1 (ticks_until_wanted (assignment_of s (a + 1) c)))
    s.conversations (λ c m. ap ticks_until_wanted (k.states (a + 1) c ∙ (waits_on j (assignment_of s (a + 1) c) (table_lasts j s h a c l m)).longer)
    ∙ wait_left (assignment_of s (a + 1) c))
    ∙ below_left (λ c. ticks_until_wanted (assignment_of s (a + 1) c)) s.conversations)
    ∙ below_left (λ a. soonest_below (λ c. ticks_until_wanted (assignment_of s (a + 1) c)) s.conversations) s.aggs)
