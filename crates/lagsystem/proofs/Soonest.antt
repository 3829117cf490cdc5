-- What is told is the first of what happens.
use Rattle.lagsystem.proofs.Common.{Bool, List, None, Option, Some, [], ap, arith, if◌then◌else◌, inl, inr, map, nat_lt, refl, slice_get, suc, sym}
use Rattle.lagsystem.proofs.Common.{true, zero, ℕ, ◌&&◌, ◌+◌, ◌-◌, ◌<◌, ◌∙◌, ◌∷◌, ◌≡◌, ◌⊎◌, and_parts, false≢true, le-leb, leb-true, nat_tests}
use Rattle.lagsystem.proofs.Common.{none-some, Machines, Assignment, Flushing, Table, assignment_of, is_by, sooner, ticks_until_next_wanted}
use Rattle.lagsystem.proofs.Common.{ticks_until_wanted, by_left, by_right, soonest_member, SystemPort, would_transmit, SystemState, soonest}
use Rattle.lagsystem.proofs.Common.{ticks_in_window, ticks_until_due, ticks_until_due_on, ticks_until_expired, ticks_until_frame, ticks_until_room}
use Rattle.distributor.specs.Waiting.{soonest_below}
use Rattle.lagsystem.specs.Soonest.{ConversationHas, FrameHas, HappensIn, IsFirstToHappen, TimerHas, WindowHas}

by_trans : (a b c : Option ℕ) → is_by a b ≡ true → is_by b c ≡ true → is_by a c ≡ true
by_trans a b c h k = grind (arith, nat_tests)

-- one of them

one_of_two : (a b : Option ℕ) (n : ℕ) → sooner a b ≡ Some n → (a ≡ Some n) ⊎ (b ≡ Some n)
one_of_two a b n h = grind (arith, nat_tests)

one_of_list : {X : Type 0} (f : X → Option ℕ) (xs : List X) (n : ℕ) → soonest (map f xs) ≡ Some n
    → (i : ℕ) × (x : X) × (slice_get xs i ≡ Some x) × (f x ≡ Some n)
one_of_list f [] n h = absurd (none-some n h)
one_of_list f (x ∷ xs) n h = elim (one_of_two (f x) (soonest (map f xs)) n h) [
  | inl e ↦ (0, x, refl, e)
  | inr k ↦ (let r = one_of_list f xs n k in (suc r.0, r.1, r.2, r.3))
]

one_below : (f : ℕ → Option ℕ) (n m : ℕ) → soonest_below f n ≡ Some m → (k : ℕ) × (k < n) × (f k ≡ Some m)
unfolding soonest_below
one_below f zero m h = absurd (none-some m h)
one_below f (suc n) m h = elim (one_of_two (soonest_below f n) (f n) m h) [
  | inl e ↦ (let r = one_below f n m e in (r.0, omega (arith, r.1), r.2))
  | inr k ↦ (n, omega arith, k)
]

timer_is : (t n : ℕ) (b : Bool) → nat_lt 0 t ≡ b → (if b then Some t else None) ≡ Some n → (0 < n) × (t ≡ n)
timer_is t n b e h = grind (arith, nat_tests)

timer : (t n : ℕ) → ticks_until_expired t ≡ Some n → (0 < n) × (t ≡ n)
timer t n h = timer_is t n (nat_lt 0 t) refl h

frame : (s : SystemState) (x : SystemPort) (n : ℕ) (b : Bool) → would_transmit s x ≡ b → (if b then Some zero else None) ≡ Some n → FrameHas n s x
frame s x n b e h = grind (arith, nat_tests)

room : (p : Machines) (n : ℕ) (b : Bool) → (p.enabled && p.ntt) ≡ b → (if b then soonest (map ticks_in_window p.ages) else None) ≡ Some n → WindowHas n p
room p n b e h = grind (arith, nat_tests, and_parts, one_of_list, none-some)

on_port : (s : SystemState) (x : SystemPort) (n : ℕ) → ticks_until_due_on s x ≡ Some n → FrameHas n s x ⊎ (TimerHas n x.port ⊎ WindowHas n x.port)
on_port s x n h = let current = ticks_until_expired x.port.current_while in
    let periodic = ticks_until_expired x.port.periodic_timer in
    let wait = ticks_until_expired x.port.wait_while in
    let left = ticks_until_room x.port in
    elim (one_of_two (ticks_until_frame s x) (soonest (current ∷ periodic ∷ wait ∷ left ∷ [])) n h) [
      | inl a ↦ inl (frame s x n (would_transmit s x) refl a)
      | inr b ↦ elim (one_of_two current (soonest (periodic ∷ wait ∷ left ∷ [])) n b) [
        | inl a ↦ (let t = timer x.port.current_while n a in inr (inl (t.0, inl t.1)))
        | inr c ↦ elim (one_of_two periodic (soonest (wait ∷ left ∷ [])) n c) [
          | inl a ↦ (let t = timer x.port.periodic_timer n a in inr (inl (t.0, inr (inl t.1))))
          | inr d ↦ elim (one_of_two wait (soonest (left ∷ [])) n d) [
            | inl a ↦ (let t = timer x.port.wait_while n a in inr (inl (t.0, inr (inr t.1))))
            | inr e ↦ elim (one_of_two left None n e) [
              | inl a ↦ inr (inr (room x.port n (x.port.enabled && x.port.ntt) refl a))
              | inr none ↦ absurd (none-some n none)
            ]
          ]
        ]
      ]
    ]

conversation : (t : Table) (g k n : ℕ) (a : Assignment) → assignment_of t (g + 1) k ≡ a → g < t.aggs → k < t.conversations
    → ticks_until_wanted a ≡ Some n → ConversationHas n t
conversation t g k n a e l m h = grind (arith, nat_tests)

in_table : (t : Table) (n : ℕ) → ticks_until_next_wanted t ≡ Some n → ConversationHas n t
in_table t n h =
    let row = one_below (λ a. soonest_below (λ c. ticks_until_wanted (assignment_of t (a + 1) c)) t.conversations) t.aggs n h in
    let one = one_below (λ c. ticks_until_wanted (assignment_of t (row.0 + 1) c)) t.conversations n row.2 in
    conversation t row.0 one.0 n (assignment_of t (row.0 + 1) one.0) refl row.1 one.1 one.2

happens : (s : SystemState) (n : ℕ) → ticks_until_due s ≡ Some n → HappensIn n s
happens s n h = elim (one_of_two (ticks_until_next_wanted s.table) (soonest (map (ticks_until_due_on s) s.system_ports)) n h) [
  | inl a ↦ inr (in_table s.table n a)
  | inr b ↦ (let r = one_of_list (ticks_until_due_on s) s.system_ports n b in inl (r.0, r.1, r.2, on_port s r.1 n r.3))
]

-- none is sooner

by_list : {X : Type 0} (f : X → Option ℕ) (xs : List X) (i : ℕ) (x : X) (y : Option ℕ) → slice_get xs i ≡ Some x → is_by (f x) y ≡ true
    → is_by (soonest (map f xs)) y ≡ true
by_list f [] i x y e h = absurd (none-some x e)
by_list f (w ∷ ws) zero x y e h = grind (arith, nat_tests)
by_list f (w ∷ ws) (suc i) x y e h = by_right (f w) (soonest (map f ws)) y (by_list f ws i x y e h)

by_below : (f : ℕ → Option ℕ) (n k : ℕ) (y : Option ℕ) → k < n → is_by (f k) y ≡ true → is_by (soonest_below f n) y ≡ true
by_below f n k y l h = by_trans (soonest_below f n) (f k) y (soonest_member f n k l) h

by_number : (n : ℕ) (x : Option ℕ) → x ≡ Some n → is_by x (Some n) ≡ true
by_number n x e = ap (λ y. is_by y (Some n)) e ∙ le-leb n n (omega arith)

by_timer : (t n : ℕ) → 0 < n → t ≡ n → is_by (ticks_until_expired t) (Some n) ≡ true
by_timer t n l e = grind (arith, nat_tests)

abbrev at_once : Bool → Option ℕ
at_once b = if b then Some zero else None

by_port : (s : SystemState) (x : SystemPort) (n : ℕ) → FrameHas n s x ⊎ (TimerHas n x.port ⊎ WindowHas n x.port)
    → is_by (ticks_until_due_on s x) (Some n) ≡ true
by_port s x n h = elim h [
  | inl a ↦ by_left (ticks_until_frame s x) (soonest (current ∷ periodic ∷ wait ∷ left ∷ [])) (Some n)
      (by_number n (ticks_until_frame s x) (ap at_once a.0 ∙ ap Some (sym a.1)))
  | inr b ↦ by_right (ticks_until_frame s x) (soonest (current ∷ periodic ∷ wait ∷ left ∷ [])) (Some n) (elim b [
    | inl t ↦ elim t.1 [
      | inl e ↦ by_left current (soonest (periodic ∷ wait ∷ left ∷ [])) (Some n) (by_timer x.port.current_while n t.0 e)
      | inr f ↦ by_right current (soonest (periodic ∷ wait ∷ left ∷ [])) (Some n) (elim f [
        | inl e ↦ by_left periodic (soonest (wait ∷ left ∷ [])) (Some n) (by_timer x.port.periodic_timer n t.0 e)
        | inr e ↦ by_right periodic (soonest (wait ∷ left ∷ [])) (Some n)
            (by_left wait (soonest (left ∷ [])) (Some n) (by_timer x.port.wait_while n t.0 e))
      ])
    ]
    | inr w ↦ by_right current (soonest (periodic ∷ wait ∷ left ∷ [])) (Some n)
        (by_right periodic (soonest (wait ∷ left ∷ [])) (Some n)
        (by_right wait (soonest (left ∷ [])) (Some n)
        (by_left left None (Some n) (by_room x.port n w))))
  ])
]
  where
    current : Option ℕ
    current = ticks_until_expired x.port.current_while

    periodic : Option ℕ
    periodic = ticks_until_expired x.port.periodic_timer

    wait : Option ℕ
    wait = ticks_until_expired x.port.wait_while

    left : Option ℕ
    left = ticks_until_room x.port

    by_room : (p : Machines) (n : ℕ) → WindowHas n p → is_by (ticks_until_room p) (Some n) ≡ true
    by_room p n w = let open_now : (p.enabled && p.ntt) ≡ true = ap (λ b. b && p.ntt) w.0 ∙ w.1 in
        ap (λ b. is_by (if b then soonest (map ticks_in_window p.ages) else None) (Some n)) open_now
        ∙ by_list ticks_in_window p.ages w.2 w.3 (Some n) w.4 (by_number n (ticks_in_window w.3) (ap Some (sym w.5)))

by_conversation : (t : Table) (n : ℕ) → ConversationHas n t → is_by (ticks_until_next_wanted t) (Some n) ≡ true
by_conversation t n (g, k, port, id, age, preferred, is, e, f) = let back : (g - 1) + 1 ≡ g = omega (arith, is.0) in
    let below : g - 1 < t.aggs = omega (arith, is.0, is.1) in
    let there : assignment_of t ((g - 1) + 1) k ≡ Flushing port id preferred age = ap (λ a. assignment_of t a k) back ∙ e in
    by_below (λ a. soonest_below (λ c. ticks_until_wanted (assignment_of t (a + 1) c)) t.conversations) t.aggs (g - 1) (Some n) below
    (by_below (λ c. ticks_until_wanted (assignment_of t ((g - 1) + 1) c)) t.conversations k (Some n) is.2
    (by_number n (ticks_until_wanted (assignment_of t ((g - 1) + 1) k)) (ap ticks_until_wanted there ∙ ap Some (sym f))))

by_all : (s : SystemState) (n : ℕ) → HappensIn n s → is_by (ticks_until_due s) (Some n) ≡ true
by_all s n h = elim h [
  | inl (i, x, there, on) ↦ by_right (ticks_until_next_wanted s.table) (soonest (map (ticks_until_due_on s) s.system_ports)) (Some n)
      (by_list (ticks_until_due_on s) s.system_ports i x (Some n) there (by_port s x n on))
  | inr c ↦ by_left (ticks_until_next_wanted s.table) (soonest (map (ticks_until_due_on s) s.system_ports)) (Some n)
      (by_conversation s.table n c)
]

first_of : (s : SystemState) (r : Option ℕ) → ((n : ℕ) → r ≡ Some n → HappensIn n s) → ((m : ℕ) → HappensIn m s → is_by r (Some m) ≡ true) → IsFirstToHappen s r
first_of s None one none = λ m h. false≢true (none m h)
first_of s (Some n) one none = (one n refl, λ m h. leb-true n m (none m h))

pub tells_the_first : (s : SystemState) → IsFirstToHappen s (ticks_until_due s)
tells_the_first s = first_of s (ticks_until_due s) (λ n e. happens s n e) (λ m h. by_all s m h)
