-- Conversations leave stopped ports, one port after another.
use Rattle.lagsystem.proofs.Common.{Bool, List, Option, [], add-one, ap, arith, false, get_or, length, refl, slice_set, suc, take, true, zero, ℕ}
use Rattle.lagsystem.proofs.Common.{◌&&◌, ◌+◌, ◌<◌, ◌==◌, ◌||◌, ◌∙◌, ◌∷◌, ◌≡◌, nat_tests, AggId, Assignment, ChangesAssignments, after_leave, Table}
use Rattle.lagsystem.proofs.Common.{assignment_of, SystemPort, after_holding, aggregators_in_use, has_stopped, stopped}
use Rattle.std.proofs.Math.Bool.{and-true}

-- the port s left, if it is the one with the number p
abbrev leaves : Option AggId → SystemPort → ℕ → Bool
leaves was s p = (s.number == p) && has_stopped was s

or_swap : (a b : Bool) → (a || b) ≡ (b || a)
or_swap a b = grind (arith, nat_tests)

stopped_suc : (before : List (Option AggId)) (system_ports : List SystemPort) (i : ℕ) (d : Option AggId) (e : SystemPort) (p : ℕ)
    → i < length before → length before ≡ length system_ports
    → stopped (take (suc i) before) (take (suc i) system_ports) p ≡ (stopped (take i before) (take i system_ports) p
    || leaves (get_or before i d) (get_or system_ports i e) p)
stopped_suc [] system_ports i d e p l same = absurd (omega arith)
stopped_suc (b ∷ bs) [] i d e p l same = absurd (omega (arith, same))
stopped_suc (b ∷ bs) (s ∷ ss) zero d e p l same = or_swap (leaves b s p) false
stopped_suc (b ∷ bs) (s ∷ ss) (suc i) d e p l same = grind (arith, nat_tests, stopped_suc bs ss i d e p (omega arith) (omega (arith, same)))

-- the ports of one more place
pub stopped_more : (before : List (Option AggId)) (system_ports : List SystemPort) (i : ℕ) (d : Option AggId) (e : SystemPort) (p : ℕ)
    → i < length before → length before ≡ length system_ports
    → stopped (take (i + 1) before) (take (i + 1) system_ports) p ≡ (stopped (take i before) (take i system_ports) p
    || leaves (get_or before i d) (get_or system_ports i e) p)
stopped_more before system_ports i d e p l same = rw add-one (stopped_suc before system_ports i d e p l same)

-- one more port is left
leave_more : (f g : ℕ → Bool) (n : ℕ) → ((p : ℕ) → g p ≡ (f p || (n == p))) → (s : Assignment) → after_leave n (after_holding f s) ≡ after_holding g s
leave_more f g n e s = grind (arith, nat_tests)

-- the same ports are left
leave_same : (f g : ℕ → Bool) → ((p : ℕ) → g p ≡ f p) → (s : Assignment) → after_holding f s ≡ after_holding g s
leave_same f g e s = grind (arith, nat_tests)

or_none : (a b : Bool) → (a || (b && false)) ≡ a
or_none a b = grind (arith, nat_tests)

-- the port at the place stopped, and is left
pub left_more : (before : List (Option AggId)) (system_ports : List SystemPort) (i : ℕ) (d : Option AggId) (e : SystemPort) (old mid new : Table)
    → i < length before → length before ≡ length system_ports → ChangesAssignments old mid (after_holding (stopped (take i before) (take i system_ports)))
    → has_stopped (get_or before i d) (get_or system_ports i e) ≡ true → ChangesAssignments mid new (after_leave (get_or system_ports i e).number)
    → ChangesAssignments old new (after_holding (stopped (take (i + 1) before) (take (i + 1) system_ports)))
left_more before system_ports i d e old mid new l same h stops k = let n = (get_or system_ports i e).number in
    let f = stopped (take i before) (take i system_ports) in
    let g = stopped (take (i + 1) before) (take (i + 1) system_ports) in
    let more : (p : ℕ) → g p ≡ (f p || (n == p)) =
    λ p. stopped_more before system_ports i d e p l same ∙ ap (λ b. f p || ((n == p) && b)) stops
    ∙ ap (λ b. f p || b) (and-true (n == p)) in
    grind (arith, nat_tests, after_leave, leave_more, assignment_of)

-- the port at the place did not stop
pub left_same : (before : List (Option AggId)) (system_ports : List SystemPort) (i : ℕ) (d : Option AggId) (e : SystemPort) (old new : Table)
    → i < length before → length before ≡ length system_ports → ChangesAssignments old new (after_holding (stopped (take i before) (take i system_ports)))
    → has_stopped (get_or before i d) (get_or system_ports i e) ≡ false
    → ChangesAssignments old new (after_holding (stopped (take (i + 1) before) (take (i + 1) system_ports)))
left_same before system_ports i d e old new l same h stays = let n = (get_or system_ports i e).number in
    let f = stopped (take i before) (take i system_ports) in
    let g = stopped (take (i + 1) before) (take (i + 1) system_ports) in
    let equal : (p : ℕ) → g p ≡ f p =
    λ p. stopped_more before system_ports i d e p l same ∙ ap (λ b. f p || ((n == p) && b)) stays ∙ or_none (f p) (n == p) in
    grind (arith, nat_tests, leave_same, assignment_of)

-- one port went on

or_first : (b c d : Bool) → d ≡ false → ((b && c) || d) ≡ (b && c)
or_first b c d e = grind (arith, nat_tests)

or_second : (b c d : Bool) → c ≡ false → ((b && c) || d) ≡ d
or_second b c d e = grind (arith, nat_tests)

none_stopped : (system_ports : List SystemPort) (p : ℕ) → stopped (aggregators_in_use system_ports) system_ports p ≡ false
none_stopped [] p = refl
none_stopped (s ∷ ss) p = grind (arith, nat_tests, none_stopped ss p)

-- only the port at the place can have stopped
stopped_at : (system_ports : List SystemPort) (i : ℕ) (was : Option AggId) (d : SystemPort) (p : ℕ) → i < length system_ports
    → stopped (slice_set (aggregators_in_use system_ports) i was) system_ports p ≡ leaves was (get_or system_ports i d) p
stopped_at [] i was d p l = absurd (omega arith)
stopped_at (s ∷ ss) zero was d p l = grind (arith, nat_tests, or_first, none_stopped)
stopped_at (s ∷ ss) (suc i) was d p l = grind (arith, nat_tests, stopped_at ss i was d p (omega arith))

leave_only : (f : ℕ → Bool) (n : ℕ) → ((p : ℕ) → f p ≡ (n == p)) → (a : Assignment) → after_leave n a ≡ after_holding f a
leave_only f n e a = grind (arith, nat_tests)

leave_none : (f : ℕ → Bool) → ((p : ℕ) → f p ≡ false) → (a : Assignment) → a ≡ after_holding f a
leave_none f e a = grind (arith, nat_tests)

-- the port that alone went on stopped, and is left
pub one_left : (system_ports : List SystemPort) (i : ℕ) (was : Option AggId) (d : SystemPort) (old new : Table) → i < length system_ports
    → has_stopped was (get_or system_ports i d) ≡ true → ChangesAssignments old new (after_leave (get_or system_ports i d).number)
    → ChangesAssignments old new (after_holding (stopped (slice_set (aggregators_in_use system_ports) i was) system_ports))
one_left system_ports i was d old new l stops k = let n = (get_or system_ports i d).number in
    let f = stopped (slice_set (aggregators_in_use system_ports) i was) system_ports in
    let only : (p : ℕ) → f p ≡ (n == p) =
    λ p. stopped_at system_ports i was d p l ∙ ap (λ b. (n == p) && b) stops ∙ and-true (n == p) in
    grind (arith, nat_tests, leave_only, assignment_of)

-- it did not stop
pub one_stays : (system_ports : List SystemPort) (i : ℕ) (was : Option AggId) (d : SystemPort) (t : Table) → i < length system_ports
    → has_stopped was (get_or system_ports i d) ≡ false
    → ChangesAssignments t t (after_holding (stopped (slice_set (aggregators_in_use system_ports) i was) system_ports))
one_stays system_ports i was d t l stays = let n = (get_or system_ports i d).number in
    let f = stopped (slice_set (aggregators_in_use system_ports) i was) system_ports in
    let none : (p : ℕ) → f p ≡ false =
    λ p. stopped_at system_ports i was d p l ∙ ap (λ b. (n == p) && b) stays ∙ or_none false (n == p) in
    grind (arith, nat_tests, leave_none, assignment_of)
