-- The place of a port among the numbers of the ports.
use Rattle.dataplane.proofs.Common.{List, [], ap, cond, not, position, refl, ℕ, ◌+◌, ◌==◌, ◌∷◌, ◌≡◌, length-map, position_or_len, SystemPort}
use Rattle.dataplane.proofs.Common.{port_index, port_numbers}

first_place : (n : ℕ) (xs : List SystemPort) → position_or_len (λ k. k == n) (port_numbers xs) ≡ position_or_len (λ x. x.number == n) xs
first_place n [] = refl
first_place n (x ∷ xs) = ap (λ k. cond (not (x.number == n)) (1 + k) 0) (first_place n xs)

pub place_of_number : (n : ℕ) (xs : List SystemPort) → position (λ k. k == n) (port_numbers xs) ≡ port_index n xs
place_of_number n xs = rw (first_place n xs, length-map) refl
