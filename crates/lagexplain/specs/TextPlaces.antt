-- Where a place in a text is (profile).
use Rattle.std.specs.Prelude.{ℕ, ◌==◌, ◌+◌, Bool, List, bit_and, filter, length, not, reverse, take_while}

-- a line feed
abbrev pub ends_line : ℕ → Bool
ends_line octet = octet == 10

-- the first octet of a character in UTF-8
abbrev pub begins_character : ℕ → Bool
begins_character octet = not (bit_and octet 192 == 128)

-- how many lines end in these octets
abbrev pub line_ends : List ℕ → ℕ
line_ends before = length (filter (λ o. ends_line o) before)

-- how many characters begin behind the last line end in these octets
abbrev pub characters_behind : List ℕ → ℕ
characters_behind before = length (filter (λ o. begins_character o) (take_while (λ o. not (ends_line o)) (reverse before)))

-- the line of the place behind these octets
abbrev pub line_behind : List ℕ → ℕ
line_behind before = line_ends before + 1

-- the column of the place behind these octets
abbrev pub column_behind : List ℕ → ℕ
column_behind before = characters_behind before + 1
