-- Loops that read the elements of a list one after another.
use Rattle.lagscript.proofs.Common.{Err, List, Ok, Option, Result, option_map, ◌++◌}

-- what is made already, and then what is read of the rest
abbrev pub after : {A E : Type 0} → List A → Result (List A) E → Result (List A) E
after made (Ok xs) = Ok (made ++ xs)
after made (Err e) = Err e

-- what is gathered already, and then what the rest says
abbrev pub gathered : {A : Type 0} → List A → Option (List A) → Option (List A)
gathered made o = option_map (λ xs. made ++ xs) o
