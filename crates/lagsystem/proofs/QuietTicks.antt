-- A tick in which nothing is soon.
use Rattle.lagsystem.proofs.Common.{Bool, List, None, Option, Some, [], ap, arith, cond, false, if◌then◌else◌, inl, inr, is_some, length, ltb, map}
use Rattle.lagsystem.proofs.Common.{nat_lt, not, refl, subst, suc, true, zero, ℕ, ◌&&◌, ◌+◌, ◌-◌, ◌<◌, ◌==◌, ◌^◌, ◌||◌, ◌∙◌, ◌∷◌, ◌≡◌, ◌≤◌, ◌⊎◌}
use Rattle.lagsystem.proofs.Common.{cases_Bool, false≢true, leb-true, lt-ltb, ltb-true, nat_tests, AllByRecursion, AggId, PortTick, Machines}
use Rattle.lagsystem.proofs.Common.{receive_rows, AtRest, Row, RunsToRest, aged, count_down, one_effect, Assignment, On, is_among, after_tick}
use Rattle.lagsystem.proofs.Common.{marker_due, wants_marker, Table, assignment_of, count_conversations, sum_below, is_by, ticks_until_next_wanted}
use Rattle.lagsystem.proofs.Common.{ticks_until_wanted, by_first, by_second, same_sum, SystemPort, would_transmit, none_enabled, PeriodicIsSettled}
use Rattle.lagsystem.proofs.Common.{counted, waited, distributing, PortsChangeBy, held_unless_on, SystemState, views, soonest, ticks_in_window}
use Rattle.lagsystem.proofs.Common.{ticks_until_due_on, ticks_until_expired, ticks_until_frame, ticks_until_room}
use Rattle.distributor.specs.Waiting.{soonest_below}

-- ---- numbers of ticks

-- more than j + 1 ticks, and more than j ticks
abbrev pub Lasts : ℕ → Option ℕ → Type 0
Lasts j x = is_by (Some (j + 2)) x ≡ true

abbrev pub Remains : ℕ → Option ℕ → Type 0
Remains j x = is_by (Some (j + 1)) x ≡ true

-- ---- timers

-- a timer has expired, or does not expire soon
pub lasting : (j t : ℕ) (b : Bool) → nat_lt 0 t ≡ b → Lasts j (if b then Some t else None) → (t ≡ 0) ⊎ (j + 2 ≤ t)
lasting j t b e h = grind (arith, nat_tests)

timer_alike : (j t : ℕ) → Lasts j (ticks_until_expired t) → (t - 1 == 0) ≡ (t == 0)
timer_alike j t h = grind (arith, nat_tests)

-- ---- the transmit window

pub aged_on : (a : ℕ) (more : List ℕ) → a + 1 < 11 → aged (a ∷ more) ≡ (a + 1) ∷ aged more
aged_on a more h = ap (λ b. cond b ((a + 1) ∷ aged more) (aged more)) (lt-ltb (a + 1) 11 h)

aged_alike : (j : ℕ) (ages : List ℕ) → Lasts j (soonest (map ticks_in_window ages)) → length (aged ages) ≡ length ages
aged_alike j [] h = refl
aged_alike j (a ∷ more) h = let rest = soonest (map ticks_in_window more) in
    let here : j + 2 ≤ 11 - a = leb-true (j + 2) (11 - a) (by_first (Some (j + 2)) (ticks_in_window a) rest h) in
    ap length (aged_on a more (omega (arith, here)))
    ∙ ap (λ n. suc n) (aged_alike j more (by_second (Some (j + 2)) (ticks_in_window a) rest h))

room_alike : (j : ℕ) (p : Machines) (b : Bool) → Lasts j (if b then soonest (map ticks_in_window p.ages) else None) → b ≡ true
    → length (aged p.ages) ≡ length p.ages
room_alike j p b h e = grind (arith, nat_tests, aged_alike)

-- ---- one port

not_first : (b c : Bool) → (not b && c) ≡ true → b ≡ false
not_first b c h = grind (arith, nat_tests)

not_second : (b c : Bool) → (not b && c) ≡ true → c ≡ true
not_second b c h = grind (arith, nat_tests)

pub at_rest : (rows : List Row) (p : Machines) → none_enabled rows p ≡ true → AtRest rows p
at_rest [] p h = tt
at_rest (row ∷ rows) p h = grind (arith, nat_tests, at_rest rows p (not_second (row.enabled p) (none_enabled rows p) h))

rests_on : (p : Machines) → (p.current_while - 1 == 0) ≡ (p.current_while == 0) → AtRest receive_rows p → AtRest receive_rows (count_down p)
rests_on p e h = grind (arith, nat_tests)

only_counts : (p q : Machines) → AtRest receive_rows p → AtRest receive_rows (count_down p) → RunsToRest receive_rows (count_down p) q → q ≡ count_down p
only_counts p q old rest h = one_effect PortTick p q (count_down p) old h (0, refl, rest)

-- what lasts on a port
pub record PortLasts (j : ℕ) (s : SystemState) (x : SystemPort) : Type 0 where
  pub frame : Lasts j (ticks_until_frame s x)
  pub current_while : Lasts j (ticks_until_expired x.port.current_while)
  pub periodic_timer : Lasts j (ticks_until_expired x.port.periodic_timer)
  pub wait_while : Lasts j (ticks_until_expired x.port.wait_while)
  pub room : Lasts j (ticks_until_room x.port)

pub port_lasts : (j : ℕ) (s : SystemState) (x : SystemPort) → Lasts j (ticks_until_due_on s x) → PortLasts j s x
port_lasts j s x h = let frame = ticks_until_frame s x in
    let current = ticks_until_expired x.port.current_while in
    let periodic = ticks_until_expired x.port.periodic_timer in
    let wait = ticks_until_expired x.port.wait_while in
    let room = ticks_until_room x.port in
    let c = Some (j + 2) in
    let h1 = by_second c frame (soonest (current ∷ periodic ∷ wait ∷ room ∷ [])) h in
    let h2 = by_second c current (soonest (periodic ∷ wait ∷ room ∷ [])) h1 in
    let h3 = by_second c periodic (soonest (wait ∷ room ∷ [])) h2 in
    let h4 = by_second c wait (soonest (room ∷ [])) h3 in
    record {
      frame = by_first c frame (soonest (current ∷ periodic ∷ wait ∷ room ∷ [])) h;
      current_while = by_first c current (soonest (periodic ∷ wait ∷ room ∷ [])) h1;
      periodic_timer = by_first c periodic (soonest (wait ∷ room ∷ [])) h2;
      wait_while = by_first c wait (soonest (room ∷ [])) h3;
      room = by_first c room None h4;
    }

-- nothing is due now
pub frame_not : (k : ℕ) (b : Bool) → is_by (Some (k + 1)) (if b then Some 0 else None) ≡ true → b ≡ false
frame_not k b h = grind (arith, nat_tests)

not_due : (up ntt few later was now : Bool) → ((up && ntt) ≡ true → later ≡ few) → now ≡ was → (up && ((ntt && few) || was)) ≡ false
    → (up && ((ntt && later) || now)) ≡ false
not_due up ntt few later was now e m h = grind (arith, nat_tests)

-- with the port's window as it was, and markers wanted as before, no frame gets due
pub still_not_due : (j : ℕ) (s t : SystemState) (x : SystemPort) → PortLasts j s x
    → is_some (marker_due t.table x.number) ≡ is_some (marker_due s.table x.number) → would_transmit t (counted x) ≡ false
still_not_due j s t x h m = grind (arith, nat_tests, frame_not, not_due, room_alike)

-- ---- all ports

pub each_lasts : (j : ℕ) (s : SystemState) (xs : List SystemPort) → Lasts j (soonest (map (ticks_until_due_on s) xs)) → AllByRecursion (PortLasts j s) xs
each_lasts j s [] h = tt
each_lasts j s (x ∷ xs) h = let c = Some (j + 2) in
    let rest = soonest (map (ticks_until_due_on s) xs) in
    (port_lasts j s x (by_first c (ticks_until_due_on s x) rest h), each_lasts j s xs (by_second c (ticks_until_due_on s x) rest h))

pub counted_ports : (j : ℕ) (s : SystemState) (xs ys : List SystemPort) → AllByRecursion (PortLasts j s) xs
    → AllByRecursion (λ x. none_enabled receive_rows x.port ≡ true) xs
    → PortsChangeBy (λ p q. RunsToRest receive_rows (count_down p) q) xs ys → ys ≡ map counted xs
counted_ports j s [] [] l r h = refl
counted_ports j s [] (y ∷ ys) l r h = absurd h
counted_ports j s (x ∷ xs) [] l r h = absurd h
counted_ports j s (x ∷ xs) (y ∷ ys) l r h = let rest = at_rest receive_rows x.port r.0 in
    let port : y.port ≡ count_down x.port = only_counts x.port y.port rest
    (rests_on x.port (timer_alike j x.port.current_while l.0.current_while) rest) h.0.1 in
    let here : y ≡ counted x = h.0.0 ∙ ap (λ (p : Machines). record x { port = p }) port in
    let more = counted_ports j s xs ys l.1 r.1 h.1 in
    λ i. here i ∷ more i

pub counted_views : (j : ℕ) (s : SystemState) (xs : List SystemPort) → AllByRecursion (PortLasts j s) xs → views (map counted xs) ≡ views xs
counted_views j s [] h = refl
counted_views j s (x ∷ xs) h = grind (arith, nat_tests, counted_views j s xs h.1)

pub counted_paced : (j : ℕ) (s : SystemState) (xs : List SystemPort) → AllByRecursion (PortLasts j s) xs
    → AllByRecursion PeriodicIsSettled xs → AllByRecursion PeriodicIsSettled (map counted xs)
counted_paced j s [] l h = tt
counted_paced j s (x ∷ xs) l h = grind (arith, nat_tests, counted_paced j s xs l.1 h.1)

-- the ports that distribute
through : (b : Bool) (x : SystemPort) (xs : List SystemPort) → map (λ (s : SystemPort). s.number) (cond b (x ∷ xs) xs) ≡ cond b (x.number
    ∷ map (λ (s : SystemPort). s.number) xs) (map (λ (s : SystemPort). s.number) xs)
through b x xs = grind (arith, nat_tests)

pub counted_distributing : (agg : AggId) (xs : List SystemPort) → distributing agg (map counted xs) ≡ distributing agg xs
counted_distributing agg [] = refl
counted_distributing agg (x ∷ xs) = grind (arith, nat_tests, counted_distributing agg xs)

-- ---- conversations

-- a conversation that is On a port after a tick was On it before
pub on_before : (a : Assignment) (p : ℕ) → after_tick a ≡ On p → a ≡ On p
on_before a p h = grind (arith, nat_tests)

pub carried_on : (ports : List ℕ) (a : Assignment) → ((p : ℕ) → a ≡ On p → is_among ports p ≡ true) → a ≡ held_unless_on ports a
carried_on ports a k = grind (arith, nat_tests)

-- a conversation that waits on
pub record WaitsOn (j : ℕ) (a : Assignment) : Type 0 where
  pub wants : (port : ℕ) → wants_marker port (after_tick a) ≡ wants_marker port a
  pub longer : after_tick a ≡ waited 1 a

pub waits_on : (j : ℕ) (a : Assignment) → Lasts j (ticks_until_wanted a) → WaitsOn j a
waits_on j a h = grind (arith, nat_tests)

below_lasts : (f : ℕ → Option ℕ) (n : ℕ) (x : Option ℕ) (k : ℕ) → is_by x (soonest_below f n) ≡ true → k < n → is_by x (f k) ≡ true
unfolding soonest_below
below_lasts f zero x k h lt = absurd (omega arith)
below_lasts f (suc n) x k h lt = elim (cases_Bool (nat_lt k n)) [
  | inl e ↦ below_lasts f n x k (by_first x (soonest_below f n) (f n) h) (ltb-true k n e)
  | inr g ↦ (let last : n ≡ k = grind (arith, nat_tests) in
      subst (λ i. is_by x (f i) ≡ true) last (by_second x (soonest_below f n) (f n) h))
]

pub table_lasts : (j : ℕ) (t : Table) → Lasts j (ticks_until_next_wanted t) → (a c : ℕ) → a < t.aggs → c < t.conversations
    → Lasts j (ticks_until_wanted (assignment_of t (a + 1) c))
table_lasts j t h a c l m = below_lasts (λ c. ticks_until_wanted (assignment_of t (a + 1) c)) t.conversations (Some (j + 2)) c
    (below_lasts (λ a. soonest_below (λ c. ticks_until_wanted (assignment_of t (a + 1) c)) t.conversations) t.aggs (Some (j + 2)) a h l) m

-- what a tick makes of a table in which each conversation waits on
pub record TableTicked (s t : Table) : Type 0 where
  pub aggs : t.aggs ≡ s.aggs
  pub conversations : t.conversations ≡ s.conversations
  pub first : t.first ≡ s.first
  pub next : t.next ≡ s.next
  pub states : (a c : ℕ) → assignment_of t a c ≡ after_tick (assignment_of s a c)

same_count : (port j : ℕ) (s t : Table) → TableTicked s t → Lasts j (ticks_until_next_wanted s)
    → count_conversations (wants_marker port) t ≡ count_conversations (wants_marker port) s
same_count port j s t k h =
    (λ i. sum_below (λ a. sum_below (λ c. cond (wants_marker port (assignment_of t (a + 1) c)) 1 0) (k.conversations i)) (k.aggs i))
    ∙ same_sum _ _ s.aggs (λ a l. same_sum _ _ s.conversations (λ c m. ap (λ b. cond b 1 0)
    (ap (wants_marker port) (k.states (a + 1) c) ∙ (waits_on j (assignment_of s (a + 1) c) (table_lasts j s h a c l m)).wants port)))

-- the same markers are due
pub same_marker : (port j : ℕ) (s t : Table) → TableTicked s t → Lasts j (ticks_until_next_wanted s) → marker_due t port ≡ marker_due s port
same_marker port j s t k h = let count = same_count port j s t k h in
    λ i. cond (ltb 0 (count i)) (cond (ltb (k.next i) (2 ^ 32)) (Some (k.next i)) None) None
