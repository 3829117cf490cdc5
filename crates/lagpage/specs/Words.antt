-- What is told of a payload, of a frame that is to be answered, and of the vectors: the texts of the jobs of `lagtool`.
use Rattle.std.specs.Prelude.{◌≡◌, ◌<◌, ◌⊎◌, ℕ, ◌==◌, Bool, List, [], Ok, IsErr, codes, length, if◌then◌else◌}
use Rattle.std.specs.Str.{IsUtf8}
use Rattle.std.specs.Io.{StartsWith}
use Rattle.hex.specs.Hex.{decode_of}
use Rattle.lagtool_jobs.specs.Engines.{SaysMac, status_of}
use Rattle.lagtool_jobs.specs.Explained.{character_text, count_text, digits_first}
use Rattle.lagtool_jobs.specs.Reports.{IsAnswerToHex, IsTextOfHex}
use Rattle.lagtool_jobs.specs.Vectors.{failures, vectors_text}
use Rattle.lagpage.specs.Answers.{Tells}
use Rattle.lagpage.specs.Scripts.{two_lines}
use Rattle.lagpage.specs.declared.told.Told.{Told}

-- what is said of a word that is not so many hexadecimal digits as are wanted: its first other character, or how many it has
pub record SaysNoDigits (fault name word wanted said : List ℕ) : Type 0 where
  pub why : List ℕ
  pub lines : said ≡ two_lines fault why
  pub count : digits_first word ≡ length word → why ≡ count_text name (length word) wanted
  pub character : digits_first word < length word → StartsWith why (character_text name (digits_first word))

abbrev pub SaysNoHex : List ℕ → List ℕ → Type 0
SaysNoHex hex said = SaysNoDigits (codes "not hex") (codes "HEX") hex (codes "is an even number") said

abbrev pub SaysNoMac : List ℕ → List ℕ → Type 0
SaysNoMac mac said = SaysNoDigits (codes "not a mac") (codes "MAC") mac (codes "are 12") said

-- a word that is not UTF-8
abbrev pub TellsNoWord : Told → Type 0
TellsNoWord t = Tells 2 [] (codes "a word is not UTF-8") t

-- what is told of a payload, or of a word that is none
abbrev pub TellsDecodeOf : List ℕ → Told → Type 0
TellsDecodeOf hex t =
    ((text : List ℕ) × (accepted : Bool) × IsTextOfHex hex text accepted × Tells (status_of (Ok accepted)) text [] t)
    ⊎ (IsErr (decode_of hex) × ((said : List ℕ) × SaysNoHex hex said × Tells 2 [] said t))

abbrev pub TellsDecode : List ℕ → Told → Type 0
TellsDecode hex t = (IsUtf8 hex × TellsDecodeOf hex t) ⊎ ((IsUtf8 hex → ⊥) × TellsNoWord t)

-- what is told of a frame that is to be answered, or of words that are none; the address is checked first
abbrev pub TellsRespondOf : List ℕ → List ℕ → Told → Type 0
TellsRespondOf mac hex t =
    ((text : List ℕ) × (answered : Bool) × IsAnswerToHex mac hex text answered × Tells (status_of (Ok answered)) text [] t)
    ⊎ (((SaysMac mac → ⊥) × ((said : List ℕ) × SaysNoMac mac said × Tells 2 [] said t))
    ⊎ (SaysMac mac × (IsErr (decode_of hex) × ((said : List ℕ) × SaysNoHex hex said × Tells 2 [] said t))))

abbrev pub TellsRespond : List ℕ → List ℕ → Told → Type 0
TellsRespond mac hex t =
    ((IsUtf8 mac × IsUtf8 hex) × TellsRespondOf mac hex t) ⊎ (((IsUtf8 mac → ⊥) ⊎ (IsUtf8 hex → ⊥)) × TellsNoWord t)

-- a line for each of the ten vectors, and the counts
pub record TellsVectors (t : Told) : Type 0 where
  pub passed : List Bool
  pub ten : length passed ≡ 10
  pub told : Tells (if failures passed == 0 then 0 else 1) (vectors_text passed) [] t
