-- The distribution algorithms: the index that a conversation picks, in the list of the ports that distribute (6.2.4; profile).
use Rattle.std.specs.Prelude.{◌≡◌, ℕ, zero, suc, ◌+◌, ◌/◌, ◌%◌, Bool, cond, eqb, nat_le}
use Rattle.distributor.specs.Calls.{index_by_number}

-- the number of the conversation, its 16th part and its 256th part together, modulo the count of ports; 0 if there are none
abbrev pub index_by_sum : ℕ → ℕ → ℕ
index_by_sum conv count = cond (eqb count 0) 0 ((conv + conv / 16 + conv / 256) % count)

-- by the number of the algorithm: 0 by the number of the conversation, 1 by the sum, 2 the first port
abbrev pub index_by : ℕ → ℕ → ℕ → ℕ
index_by zero conv count = index_by_number conv count
index_by (suc zero) conv count = index_by_sum conv count
index_by (suc (suc more)) conv count = 0

-- what an algorithm may return: this place, for conversation conv and this count of ports
abbrev pub gives_by : ℕ → ℕ → ℕ → ℕ → Type 0
gives_by algorithm conv count place = place ≡ index_by algorithm conv count

-- the numbers of algorithms
abbrev pub is_algorithm : ℕ → Bool
is_algorithm n = nat_le n 2
