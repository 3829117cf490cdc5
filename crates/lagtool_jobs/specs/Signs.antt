-- How far long work is, as standard error shows it (profile).
use Rattle.std.specs.Prelude.{ℕ, ◌-◌, ◌++◌, Bool, List, ◌∷◌, codes, decimal, nat_le}

-- a carriage return, and up to which line or entry the work is done
abbrev pub sign_text : List ℕ → ℕ → List ℕ
sign_text noun done = 13 ∷ (codes "lagtool: " ++ (noun ++ 32 ∷ decimal done))

-- a tenth of a second or more lies between the two times, which are in nanoseconds
abbrev pub is_due : ℕ → ℕ → Bool
is_due last now = nat_le 100000000 (now - last)
