-- What is told of a script: the texts of the job of `lagtool`.
use Rattle.std.specs.Prelude.{◌≡◌, ◌<◌, ◌⊎◌, ℕ, ◌^◌, ◌++◌, List, [], ◌∷◌, codes, length, take}
use Rattle.std.specs.Str.{IsUtf8}
use Rattle.std.specs.Str.Lossy.{utf8_valid_len}
use Rattle.distributor.specs.Calls.{index_by_number}
use Rattle.lagscript.specs.declared.fault.ScriptFault.{ScriptFault}
use Rattle.lagtool_jobs.specs.Explained.{SaysFault, utf8_text}
use Rattle.lagtool_jobs.specs.ReplayReport.{HasNoScript, IsReportOfScript}
use Rattle.lagworld.specs.Events.{Algorithms}
use Rattle.lagworld.specs.Sound.{both_algorithms}
use Rattle.lagpage.specs.Answers.{Tells}
use Rattle.lagpage.specs.declared.told.Told.{Told}

-- what a script is called
abbrev pub script_name : List ℕ
script_name = codes "script"

-- a line, and behind it another one
abbrev pub two_lines : List ℕ → List ℕ → List ℕ
two_lines first second = first ++ 10 ∷ second

-- the distribution algorithm of both systems of a script: by the number of the conversation (6.2.4; profile)
abbrev pub picks : ℕ → ℕ → ℕ → Type 0
picks conv count place = place ≡ index_by_number conv count

abbrev pub by_number : Algorithms
by_number = both_algorithms picks picks

-- what is said of a text that is no script: a line of its fault, and one that says first where it is
pub record SaysNoScript (text : List ℕ) (fault : ScriptFault) (said : List ℕ) : Type 0 where
  pub first : List ℕ
  pub why : List ℕ
  pub lines : said ≡ two_lines first why
  pub says : length text < 2 ^ 32 → SaysFault script_name text fault why

-- the report of a script
pub record TellsReport (text : List ℕ) (t : Told) : Type 0 where
  pub report : List ℕ
  pub is_report : IsReportOfScript by_number text report
  pub told : Tells 0 report [] t

-- why a text is no script
pub record TellsNoScript (text : List ℕ) (t : Told) : Type 0 where
  pub fault : ScriptFault
  pub refused : HasNoScript text fault
  pub said : List ℕ
  pub says : SaysNoScript text fault said
  pub told : Tells 2 [] said t

abbrev pub TellsScript : List ℕ → Told → Type 0
TellsScript text t = TellsReport text t ⊎ TellsNoScript text t

-- the octets before the first that are no UTF-8
abbrev pub text_before : List ℕ → List ℕ
text_before octets = take (utf8_valid_len octets) octets

-- what is said of a file that is no UTF-8 behind these octets: that it cannot be read, and the place
pub record SaysNoUtf8 (before said : List ℕ) : Type 0 where
  pub place : List ℕ
  pub lines : said ≡ two_lines (codes "cannot read " ++ script_name) place
  pub says : length before < 2 ^ 32 → place ≡ utf8_text script_name before

abbrev pub TellsNoUtf8 : List ℕ → Told → Type 0
TellsNoUtf8 octets t = (said : List ℕ) × SaysNoUtf8 (text_before octets) said × Tells 2 [] said t

-- what is told of a file that is replayed
abbrev pub TellsReplay : List ℕ → Told → Type 0
TellsReplay octets t = (IsUtf8 octets × TellsScript octets t) ⊎ ((IsUtf8 octets → ⊥) × TellsNoUtf8 octets t)
