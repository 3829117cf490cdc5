-- Ports in ascending order of their numbers.
use Rattle.lagsystem.proofs.Common.{Bool, List, None, Option, Some, [], arith, cond, eqb, eqb-true, false, find, if◌then◌else◌, inl, inr, nat_lt}
use Rattle.lagsystem.proofs.Common.{refl, slice_get, slice_set, subst, suc, sym, true, zero, ℕ, ◌+◌, ◌<◌, ◌==◌, ◌∷◌, ◌≡◌, nat_tests, position-Some}
use Rattle.lagsystem.proofs.Common.{get_or_from_slice_get, none-some, same_Some, AllByRecursion, Key, AreNumbered, find_number, whichever, PortView}
use Rattle.lagsystem.proofs.Common.{is_conversation_count, PortConfig, BadConfig, SystemPort, configured_numbers, first_bad_port_number, refusal}
use Rattle.lagsystem.proofs.Common.{refusal_of_limits, number_of_port, HasPorts, SystemState, port_index, port_numbers, selection_view, views}

-- each number is above the one before it
abbrev pub Rises : ℕ → List ℕ → Type 0
Rises low [] = Unit {0}
Rises low (n ∷ ns) = (low < n) × Rises n ns

rises_on : (place low n : ℕ) (ns : List ℕ) (b : Bool) → nat_lt low n ≡ b → (if b then first_bad_port_number (place + 1) n ns else Some place) ≡ None
    → (low < n) × (first_bad_port_number (place + 1) n ns ≡ None)
rises_on place low n ns b t e = grind (arith, nat_tests)

rises : (place low : ℕ) (ns : List ℕ) → first_bad_port_number place low ns ≡ None → Rises low ns
rises place low [] e = tt
rises place low (n ∷ ns) e = let both = rises_on place low n ns (nat_lt low n) refl e in (both.0, rises (place + 1) n ns both.1)

pub if_then : (b : Bool) (x : Option BadConfig) (y : BadConfig) → (if b then x else Some y) ≡ None → x ≡ None
if_then b x y h = grind (arith, nat_tests)

-- no port number, limit or count of a configuration that is accepted is a reason to refuse it
accepted_numbers : (keys : List Key) (ports : List PortConfig) (most : Option ℕ) (conversations : ℕ) → refusal keys ports most conversations ≡ None
    → (first_bad_port_number 1 0 (configured_numbers ports) ≡ None) × (refusal_of_limits most conversations ≡ None)
accepted_numbers keys ports most conversations h = grind (arith, nat_tests)

pub accepted_count : (keys : List Key) (ports : List PortConfig) (most : Option ℕ) (conversations : ℕ)
    → refusal keys ports most conversations ≡ None → is_conversation_count conversations ≡ true
accepted_count keys ports most conversations h = grind (arith, nat_tests)

pub accepted_rises : (keys : List Key) (ports : List PortConfig) (most : Option ℕ) (conversations : ℕ)
    → refusal keys ports most conversations ≡ None → Rises 0 (configured_numbers ports)
accepted_rises keys ports most conversations h = grind (arith, nat_tests, rises, accepted_numbers)

pub ports_rise : (s : SystemState) → HasPorts s → Rises 0 (port_numbers s.system_ports)
ports_rise s h = subst (λ ns. Rises 0 ns) (sym h.same) (accepted_rises s.keys s.ports s.max_links s.conversations h.accepted)

-- no number twice
not_found : (low n : ℕ) (system_ports : List SystemPort) → Rises low (port_numbers system_ports) → n < low + 1
    → find_number number_of_port system_ports n ≡ None
not_found low n [] r l = refl
not_found low n (s ∷ ss) r l = grind (arith, nat_tests, not_found s.number n ss r.1 (omega (arith, l, r.0)))

pub are_numbered : (low : ℕ) (system_ports : List SystemPort) → Rises low (port_numbers system_ports) → AreNumbered number_of_port system_ports
are_numbered low [] r = tt
are_numbered low (s ∷ ss) r = (not_found s.number s.number ss r.1 (omega arith), are_numbered s.number ss r.1)

-- the first view with the number of the port at a place is the port's
rises-get : (low : ℕ) (system_ports : List SystemPort) (i : ℕ) (s : SystemPort) → Rises low (port_numbers system_ports)
    → slice_get system_ports i ≡ Some s → low < s.number
rises-get low [] i s r e = cc
rises-get low (t ∷ ts) zero s r e = let same : t ≡ s = cc in subst (λ x. low < x.number) same r.0
rises-get low (t ∷ ts) (suc i) s r e = omega (arith, rises-get t.number ts i s r.1 e, r.0)

found : (b : Bool) (v w : PortView) (rest : Option PortView) → b ≡ true → v ≡ w → cond b (Some v) rest ≡ Some w
found b v w rest h e = grind (arith, nat_tests)

passed : (b : Bool) (v : PortView) (rest : Option PortView) → b ≡ false → cond b (Some v) rest ≡ rest
passed b v rest h = grind (arith, nat_tests)

eqb-false : (m n : ℕ) → m < n → (m == n) ≡ false
eqb-false m n h = grind (arith, nat_tests)

pub find_here : (low : ℕ) (system_ports : List SystemPort) (i : ℕ) (s : SystemPort) → Rises low (port_numbers system_ports)
    → slice_get system_ports i ≡ Some s → find (λ v. v.number == s.number) (views system_ports) ≡ Some (selection_view s)
find_here low [] i s r e = cc
find_here low (t ∷ ts) zero s r e = grind (arith, nat_tests)
find_here low (t ∷ ts) (suc i) s r e = grind (arith, nat_tests, passed, eqb-false, rises-get, find_here t.number ts i s r.1 e)

-- what holds of each port
pub all-set : (P : SystemPort → Type 0) (system_ports : List SystemPort) (i : ℕ) (t : SystemPort) → AllByRecursion P system_ports → P t
    → AllByRecursion P (slice_set system_ports i t)
all-set P [] i t all h = tt
all-set P (s ∷ ss) zero t all h = (h, all.1)
all-set P (s ∷ ss) (suc i) t all h = (all.0, all-set P ss i t all.1 h)

pub all-get : (P : SystemPort → Type 0) (system_ports : List SystemPort) (i : ℕ) (s : SystemPort) → slice_get system_ports i ≡ Some s
    → AllByRecursion P system_ports → P s
all-get P [] i s e all = cc
all-get P (t ∷ ts) zero s e all = let same : t ≡ s = cc in subst P same all.0
all-get P (t ∷ ts) (suc i) s e all = all-get P ts i s e all.1

pub all_found : (P : SystemPort → Type 0) (system_ports : List SystemPort) → AllByRecursion P system_ports → (q : ℕ) (s : SystemPort)
    → find_number number_of_port system_ports q ≡ Some s → P s
all_found P [] all q s e = absurd (none-some s e)
all_found P (t ∷ ts) all q s e = elim (whichever (eqb q (number_of_port t)) (Some t) (find_number number_of_port ts q) (Some s) e) [
  | inl h ↦ subst P (same_Some t s h.1) all.0
  | inr h ↦ all_found P ts all.1 q s h.1
]

-- the port at the place of a number has that number
pub found_place : (n : ℕ) (system_ports : List SystemPort) (i : ℕ) (s : SystemPort) → port_index n system_ports ≡ Some i
    → slice_get system_ports i ≡ Some s → s.number ≡ n
found_place n system_ports i s e at = let found = position-Some (λ (x : SystemPort). x.number == n) system_ports i s e in
    eqb-true s.number n (subst (λ (x : SystemPort). (x.number == n) ≡ true) (get_or_from_slice_get system_ports i s s at) found.1)
