-- The lines of everything that is read, whatever the size of each read (profile).
use Rattle.std.specs.Prelude.{ℕ, suc, ◌-◌, ◌++◌, ◌==◌, List, [], ◌∷◌, if◌then◌else◌, length, slice_index_or, take}

-- a list of this one line; empty if the line has no octets
abbrev pub line_if_any : List ℕ → List (List ℕ)
line_if_any [] = []
line_if_any (x ∷ xs) = (x ∷ xs) ∷ []

-- the lines, with these octets put before the first; if there are no lines, these octets as the only line, if any
abbrev pub continue_line : List ℕ → List (List ℕ) → List (List ℕ)
continue_line octets [] = line_if_any octets
continue_line octets (l ∷ ls) = (octets ++ l) ∷ ls

-- the lines of a text, each up to its newline; the last may have none
abbrev pub lines_of : List ℕ → List (List ℕ)
lines_of [] = []
lines_of (b ∷ bs) = if b == 10 then [] ∷ lines_of bs else continue_line (b ∷ []) (lines_of bs)

-- how many newlines there are
abbrev pub newline_count : List ℕ → ℕ
newline_count [] = 0
newline_count (b ∷ bs) = if b == 10 then suc (newline_count bs) else newline_count bs

-- the lines that a newline ends: the first lines, as many as there are newlines
abbrev pub ended_lines : List ℕ → List (List ℕ)
ended_lines octets = take (newline_count octets) (lines_of octets)

-- the length of the longest line before its newline, a carriage return counted
abbrev pub longest_line : ℕ
longest_line = 65536

-- the line without one carriage return at its end
abbrev pub without_return : List ℕ → List ℕ
without_return line = if slice_index_or line (length line - 1) 0 == 13 then take (length line - 1) line else line
