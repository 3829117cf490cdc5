-- Counts of frames.
use Rattle.std.specs.Prelude.{◌-◌, ◌^◌, ℕ, min}

-- a count of 64 bits that stays at its end
unfoldable pub counted : ℕ → ℕ
counted n = min n (2 ^ 64 - 1)
