-- What readers return for a port is what the model sees of it.
use Rattle.lagsystem.proofs.Common.{Bool, List, None, Option, Some, [], ap, arith, cond, eqb, length, nat_lt, not, option_map, refl, slice_get, ℕ}
use Rattle.lagsystem.proofs.Common.{◌+◌, ◌==◌, ◌∙◌, ◌∷◌, ◌≡◌, nat_tests, slice_get_past, position_or_len, find_number, PortFacts, Machines}
use Rattle.lagsystem.proofs.Common.{SystemPort, model_port, model_view, number_of_port, SystemState, machines_of, port_index, system_port_at}
use Rattle.lagmodel.specs.World.{party_at}

at_end : (i : ℕ) (xs : List SystemPort) (b : Bool) → nat_lt i (length xs) ≡ b → system_port_at (cond b (Some i) None) xs ≡ slice_get xs i
at_end i xs b e = grind (arith, nat_tests, slice_get_past)

-- one step of the search, by the rest of it
there_next : (n : ℕ) (x : SystemPort) (xs : List SystemPort) (rest : ℕ) (b : Bool) → slice_get xs rest ≡ find_number number_of_port xs n → (x.number == n) ≡ b
    → slice_get (x ∷ xs) (cond (not b) (1 + rest) 0) ≡ cond (eqb n x.number) (Some x) (find_number number_of_port xs n)
there_next n x xs rest b ih e = grind (arith, nat_tests)

first_there : (n : ℕ) (xs : List SystemPort) → slice_get xs (position_or_len (λ s. s.number == n) xs) ≡ find_number number_of_port xs n
first_there n [] = refl
first_there n (x ∷ xs) = there_next n x xs (position_or_len (λ s. s.number == n) xs) (x.number == n) (first_there n xs) refl

first_place : (n : ℕ) (xs : List SystemPort) → system_port_at (port_index n xs) xs ≡ find_number number_of_port xs n
first_place n xs = grind (arith, nat_tests, at_end, first_there)

mapped_twice : (o : Option SystemPort) → option_map (λ (s : SystemPort). model_port s.port) o ≡ option_map model_port
    (option_map (λ (s : SystemPort). s.port) o)
mapped_twice o = grind (arith, nat_tests)

-- the port that readers tell of is the port that the law sees
pub port_seen : (s : SystemState) (p : ℕ) → (model_view s).port p ≡ option_map model_port (machines_of p s)
port_seen s p = grind (arith, nat_tests, first_place, mapped_twice)

party_shown : (o : Option Machines) → option_map (λ (a : PortFacts). a.party) (option_map model_port o) ≡ option_map (λ (x : Machines). x.party) o
party_shown o = grind (arith, nat_tests)

-- so is its party
pub party_seen : (s : SystemState) (p : ℕ) → party_at (model_view s) p ≡ option_map (λ (x : Machines). x.party) (machines_of p s)
party_seen s p = ap (option_map (λ (a : PortFacts). a.party)) (port_seen s p) ∙ party_shown (machines_of p s)
