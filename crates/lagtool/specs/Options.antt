-- The options of the program, which stand before its subcommand (profile).
use Rattle.std.specs.Prelude.{ℕ, ◌+◌, ◌||◌, Bool, true, false, List, [], ◌∷◌, String, codes, drop, if◌then◌else◌, string_bytes, take}
use Rattle.std.specs.Str.{bytes_eq}
use Rattle.std.specs.declared.alloc.Global.{Global}
use Rattle.lagtool.specs.declared.options.Options.{Options}

-- a word that is an option; there are five
abbrev pub is_option : List ℕ → Bool
is_option word =
    bytes_eq word (codes "--explain") || bytes_eq word (codes "--progress") || bytes_eq word (codes "--all")
    || bytes_eq word (codes "--no-frames") || bytes_eq word (codes "--json")

-- how many of these words are options, up to the first that is none
abbrev pub count_options : List (String Global) → ℕ
count_options [] = 0
count_options (word ∷ words) = if is_option (string_bytes word) then count_options words + 1 else 0

-- one of these words is this option
unfoldable pub has_option : List ℕ → List (String Global) → Bool
has_option name [] = false
has_option name (word ∷ words) = if bytes_eq (string_bytes word) name then true else has_option name words

-- the first words, so many, as options
abbrev pub first_options : ℕ → List (String Global) → Options
first_options count words = record {
  explain = has_option (codes "--explain") (take count words);
  progress = has_option (codes "--progress") (take count words);
  all = has_option (codes "--all") (take count words);
  no_frames = has_option (codes "--no-frames") (take count words);
  json = has_option (codes "--json") (take count words);
  count = count;
}

-- the options of a command line: those behind the name of the program, up to the first word that is none
abbrev pub options_in : List (String Global) → Options
options_in words = first_options (count_options (drop 1 words)) (drop 1 words)
