-- Which name was meant by a word (profile).
use Rattle.std.specs.Prelude.{◌≡◌, ℕ, ◌++◌, ◌≤◌, ◌<◌, All, List, ◌∷◌, length, Option, Some, None, ◌⊎◌}
use Rattle.std.specs.Str.{chars}
use Rattle.strsim.specs.Edits.{osa_table}

-- How many edits lead from a word to a name: a character more, one less, another one, or two neighbours swapped, and
-- no part is edited twice.
abbrev pub edits_between : List ℕ → List ℕ → ℕ
edits_between word name = (osa_table (chars word) (chars name)).last_row (length (chars name))

-- At most two edits lead to the name, which is one of these. To none of them lead fewer, and to those before it more.
pub record IsNearest (word : List ℕ) (names : List (List ℕ)) (name : List ℕ) : Type 0 where
  pub before : List (List ℕ)
  pub behind : List (List ℕ)
  pub among : names ≡ before ++ name ∷ behind
  pub near : edits_between word name ≤ 2
  pub first : All (λ other. edits_between word name < edits_between word other) before
  pub least : All (λ other. edits_between word name ≤ edits_between word other) behind

-- the first of the nearest of these names; there is none where more than two edits lead to each, or the word is longer than 40 octets
abbrev pub FindsNearest : List ℕ → List (List ℕ) → Option (List ℕ) → Type 0
FindsNearest word names (Some name) = (length word ≤ 40) × IsNearest word names name
FindsNearest word names None = (40 < length word) ⊎ All (λ name. 2 < edits_between word name) names
