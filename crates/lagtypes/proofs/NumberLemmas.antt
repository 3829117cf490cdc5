-- The value that `parse` reads from a word without a plus sign is the number of the word.
use Rattle.std.proofs.Common.{arith, Bool, List, None, Result, Some, cond, get_or, length, nat_lt, true, ℕ, ◌&&◌, ◌<◌, ◌≡◌, ◌≢◌}
use Rattle.std.specs.Str.{all_ascii_digits}
use Rattle.std.specs.Result.{OkIff, result_ok}
use Rattle.std.specs.Str.Parse.{ParsesUnsigned, digits_value}
use Rattle.std.proofs.lemmas.Str.Parse.{IsNumeralModel, numerals_by_value, parse_plain, tells_all_ascii_digits}
use Rattle.lagtypes.specs.Words.{number_below}

numerals : IsNumeralModel (λ ds. all_ascii_digits ds ≡ true) (digits_value 10)
numerals = numerals_by_value _ tells_all_ascii_digits

-- by the three tests
found : {E : Type 0} (r : Result ℕ E) (digits : Bool) (n k v : ℕ) → OkIff r ((digits ≡ true) × (0 < n) × (v < k)) v
    → result_ok r ≡ cond ((nat_lt 0 n && digits) && nat_lt v k) (Some v) None
found r digits n k v h = grind arith

pub number_parsed : {E : Type 0} (w : List ℕ) (r : Result ℕ E) → ParsesUnsigned 16 10 w r → get_or w 0 0 ≢ 43 → result_ok r ≡ number_below 65536 w
number_parsed w r h plain = found r (all_ascii_digits w) (length w) 65536 (digits_value 10 w) (parse_plain numerals 16 w r h plain)

pub long_parsed : {E : Type 0} (w : List ℕ) (r : Result ℕ E) → ParsesUnsigned 32 10 w r → get_or w 0 0 ≢ 43 → result_ok r ≡ number_below 4294967296 w
long_parsed w r h plain = found r (all_ascii_digits w) (length w) 4294967296 (digits_value 10 w) (parse_plain numerals 32 w r h plain)
