-- Reading from left to right: a value, or the first reason to stop.
use Rattle.std.specs.Prelude.{ℕ, List, length, nat_lt, Result, Ok, Err, if◌then◌else◌}
use Rattle.captures.specs.declared.fault.Stop.{Stop}
use Rattle.captures.specs.declared.fault.Stop.TheVariants.{Wants}

-- what is read behind a value, if that is read
infixl 10 ◌>>=◌
abbrev pub ◌>>=◌ : {A B : Type 0} → Result A Stop → (A → Result B Stop) → Result B Stop
(Ok x) >>= f = f x
(Err e) >>= f = Err e

-- what is read in so many octets; if there are fewer, they are wanted
abbrev pub with_octets : {A : Type 0} → ℕ → List ℕ → Result A Stop → Result A Stop
with_octets n b read = if nat_lt (length b) n then Err (Wants n) else read
