-- The addresses and octets that the words of a script stand for (profile).
use Rattle.std.specs.Prelude.{ℕ, ◌==◌, ◌&&◌, Bool, List, [], ◌∷◌, length, map, slice_index, if◌then◌else◌, Option, None}
use Rattle.std.specs.List.{list_all}
use Rattle.std.specs.Result.{result_ok}
use Rattle.hex.specs.Hex.{decode_of, decode_sized}

-- the places of the dashes in a MAC address, and those of its digits
abbrev pub dash_places : List ℕ
dash_places = 2 ∷ 5 ∷ 8 ∷ 11 ∷ 14 ∷ []

-- the indices of the twelve hexadecimal digits in the text of a MAC address
abbrev pub digit_places : List ℕ
digit_places = 0 ∷ 1 ∷ 3 ∷ 4 ∷ 6 ∷ 7 ∷ 9 ∷ 10 ∷ 12 ∷ 13 ∷ 15 ∷ 16 ∷ []

-- the text has 17 octets, and dashes where a MAC address has them
abbrev pub is_dashed : List ℕ → Bool
is_dashed text = (length text == 17) && list_all (λ i. slice_index text i == 45) dash_places

-- the six octets of six hexadecimal numbers of two digits joined by dashes, upper or lower case
abbrev pub mac_of : List ℕ → Option (List ℕ)
mac_of text = if is_dashed text then result_ok (decode_sized (map (slice_index text) digit_places) 6) else None

-- the octets of a word in hexadecimal, upper or lower case; the empty word has none
abbrev pub octets_of : List ℕ → Option (List ℕ)
octets_of w = result_ok (decode_of w)
