-- What is told of a port.
use Rattle.lagffi.proofs.Common.{ap, ◌∙◌, Err, None, Ok, Option, Result, Some, ℕ, MatchOption, SystemFault, NoPort, LagNumber, number, number_of}
use Rattle.lagffi.proofs.Common.{number_refused}
use mathlib.Core.Path.{◌≡◌}

pub told_load : (place : Option ℕ) (n : ℕ) (r : Result ℕ SystemFault) {x : LagNumber}
    → MatchOption place (r ≡ Err NoPort) (λ p. r ≡ Ok n) → x ≡ number_of r → MatchOption place (x ≡ number_refused 1) (λ p. x ≡ number n)
told_load None n r answered e = e ∙ ap number_of answered
told_load (Some p) n r answered e = e ∙ ap number_of answered
