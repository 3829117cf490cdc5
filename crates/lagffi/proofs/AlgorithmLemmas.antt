-- What is promised by an algorithm is promised by its number.
use Rattle.lagffi.proofs.Common.{arith, suc, zero, ℕ, ◌<◌, ◌≡◌, ◌≤◌, index_by_number, gives_by, index_by_sum}

pub by_number_0 : (R : (ℕ → ℕ → ℕ → Type 0) → Type 0) (n : ℕ) → n < 1 → R (λ conv count place. place ≡ index_by_number conv count) → R (gives_by n)
by_number_0 R zero h r = r
by_number_0 R (suc n) h r = absurd (omega (arith, h))

pub by_sum_1 : (R : (ℕ → ℕ → ℕ → Type 0) → Type 0) (n : ℕ) → 1 ≤ n → n < 2 → R (λ conv count place. place ≡ index_by_sum conv count) → R (gives_by n)
by_sum_1 R zero h l r = absurd (omega (arith, h))
by_sum_1 R (suc zero) h l r = r
by_sum_1 R (suc (suc n)) h l r = absurd (omega (arith, l))

pub by_first_2 : (R : (ℕ → ℕ → ℕ → Type 0) → Type 0) (n : ℕ) → 2 ≤ n → R (λ conv count place. place ≡ 0) → R (gives_by n)
by_first_2 R zero h r = absurd (omega (arith, h))
by_first_2 R (suc zero) h r = absurd (omega (arith, h))
by_first_2 R (suc (suc n)) h r = r
