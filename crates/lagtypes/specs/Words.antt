-- The words of a line of text, and the numbers that they stand for, as docs/COMMAND.md has them.
use Rattle.std.specs.Prelude.{ℕ, ◌==◌, ◌&&◌, Bool, List, length, nat_lt, if◌then◌else◌, Option, Some, None}
use Rattle.std.specs.List.{slice_split}
use Rattle.std.specs.Str.{all_ascii_digits}
use Rattle.std.specs.Str.Parse.{digits_value}

-- the parts of a text between octets that are this one
abbrev pub parts : ℕ → List ℕ → List (List ℕ)
parts cut text = slice_split (λ b. b == cut) text

-- the words of a text, cut at every single space
abbrev pub words_of : List ℕ → List (List ℕ)
words_of text = parts 32 text

-- one or more decimal digits
abbrev pub is_numeral : List ℕ → Bool
is_numeral w = nat_lt 0 (length w) && all_ascii_digits w

-- the value of a word of decimal digits, if it is below a limit; leading zeros are allowed
abbrev pub number_below : ℕ → List ℕ → Option ℕ
number_below limit w = if is_numeral w && nat_lt (digits_value 10 w) limit then Some (digits_value 10 w) else None
