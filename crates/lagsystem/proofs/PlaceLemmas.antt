-- The places of ports.
use Rattle.lagsystem.proofs.Common.{List, None, Option, Some, [], ap, arith, cond, false, get_or, length, nat_lt, refl, slice_get, slice_set, subst}
use Rattle.lagsystem.proofs.Common.{suc, sym, true, zero, ℕ, ◌<◌, ◌==◌, ◌∙◌, ◌∷◌, ◌≡◌, lt-ltb, nat_tests, get_or-map, length-map, position_or_len_is}
use Rattle.lagsystem.proofs.Common.{same_Some, IsStrictlyIncreasing, AggId, Machines, SystemPort, PortAtChangesBy, aggregators_in_use, collecting}
use Rattle.lagsystem.proofs.Common.{port_index, port_numbers}
use Rattle.std.proofs.lemmas.List.Kept.{AllPairs-from_increasing}

-- of ascending ports the one with the number at a place is the first with that number
pub place_at : (n : ℕ) (system_ports : List SystemPort) (i : ℕ) (d : SystemPort) → IsStrictlyIncreasing (port_numbers system_ports)
    → i < length system_ports → (get_or system_ports i d).number ≡ n → port_index n system_ports ≡ Some i
place_at n system_ports i d r l e = ap (λ k. cond (nat_lt k (length system_ports)) (Some k) None)
    (position_or_len_is (λ s. s.number == n) system_ports i d (omega (arith, l)) earlier
    (λ h. same (get_or system_ports i d).number n e))
    ∙ ap (λ b. cond b (Some i) None) (lt-ltb i (length system_ports) l)
  where
    unequal : (m k : ℕ) → m < k → (m == k) ≡ false
    unequal m k h = grind (arith, nat_tests)

    same : (m k : ℕ) → m ≡ k → (m == k) ≡ true
    same m k h = grind (arith, nat_tests)

    number_at : (k : ℕ) → k < length system_ports → get_or (port_numbers system_ports) k 0 ≡ (get_or system_ports k d).number
    number_at k h = get_or-map (λ (s : SystemPort). s.number) system_ports k d 0 h

    earlier : (k : ℕ) → k < i → ((get_or system_ports k d).number == n) ≡ false
    earlier k h = let below = AllPairs-from_increasing (port_numbers system_ports) r k i 0 h
        (omega (arith, l, length-map system_ports (λ (s : SystemPort). s.number))) in
        unequal (get_or system_ports k d).number n (omega (arith, below, number_at k (omega (arith, h, l)), number_at i l, e))

in_use_set : (system_ports : List SystemPort) (i : ℕ) (s t : SystemPort) → slice_get system_ports i ≡ Some s
    → slice_set (aggregators_in_use (slice_set system_ports i t)) i (collecting s.port) ≡ aggregators_in_use system_ports
in_use_set [] i s t e = refl
in_use_set (x ∷ xs) zero s t e = ap (λ (y : SystemPort). collecting y.port ∷ aggregators_in_use xs) (sym (same_Some x s e))
in_use_set (x ∷ xs) (suc i) s t e = ap (λ l. collecting x.port ∷ l) (in_use_set xs i s t e)

-- the aggregators in use before the port at a place went on
pub in_use_before : (R : Machines → Machines → Type 0) (i : ℕ) (olds news : List SystemPort) (s : SystemPort) → PortAtChangesBy R (Some i) olds news
    → slice_get olds i ≡ Some s → slice_set (aggregators_in_use news) i (collecting s.port) ≡ aggregators_in_use olds
in_use_before R i olds news s h e = grind (arith, nat_tests, in_use_set)

-- the port at the place of a number goes on
pub goes_by_number : (R : Machines → Machines → Type 0) (n i : ℕ) (system_ports olds news : List SystemPort) → olds ≡ system_ports
    → port_index n system_ports ≡ Some i → PortAtChangesBy R (Some i) olds news → PortAtChangesBy R (port_index n olds) olds news
goes_by_number R n i system_ports olds news e p h = subst (λ o. PortAtChangesBy R o olds news) (sym (ap (port_index n) e ∙ p)) h

-- the aggregators in use before the call, from those after it and the one of the port that went on
pub were_before : (R : Machines → Machines → Type 0) (i : ℕ) (system_ports olds ws news seen : List SystemPort) (system_port : SystemPort)
    (was : Option AggId) (before : List (Option AggId)) → olds ≡ system_ports → news ≡ ws → seen ≡ news
    → slice_get system_ports i ≡ Some system_port → PortAtChangesBy R (Some i) olds ws
    → was ≡ collecting system_port.port → before ≡ slice_set (aggregators_in_use seen) i was → before ≡ aggregators_in_use system_ports
were_before R i system_ports olds ws news seen system_port was before e w v at h is b =
    b ∙ (λ j. slice_set (aggregators_in_use ((v ∙ w) j)) i (is j))
    ∙ in_use_before R i system_ports ws system_port (subst (λ l. PortAtChangesBy R (Some i) l ws) e h) at
