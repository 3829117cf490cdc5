-- The command lines of the program, as `clap` reads them (profile).
use Rattle.std.specs.Prelude.{◌≡◌, ◌≢◌, ◌⊎◌, ⊤, ◌&&◌, if◌then◌else◌, true, false, Bool, List, Option, Some, None, codes, is_some}
use Rattle.std.specs.Str.{bytes_eq}
use Rattle.clap.specs.Words.{App, Row, Rule, Text, first_of, new_app, new_rule, with_rule, with_subcommand}
use Rattle.clap.specs.Words.{IsAmong, Kinds, kind_of}
use Rattle.clap.specs.declared.error.Error.{Error}
use Rattle.clap.specs.declared.error.kind.ErrorKind.{ErrorKind}
use Rattle.clap.specs.declared.error.kind.ErrorKind.TheVariants.{DisplayHelp, DisplayVersion, OutOfMemory}
use Rattle.lagtool.specs.declared.line.LineFault.{LineFault}
use Rattle.lagtool.specs.declared.line.LineFault.TheVariants.{Help, Usage, NoMemory}
use Rattle.lagtool.specs.declared.line.Job.{Job}
use Rattle.lagtool.specs.declared.line.Job.TheVariants.{Decode, Respond, Check, Capture, Replay, Vectors}

-- a required positional argument with this id (a `Rule` is what clap's contracts call an `Arg`)
abbrev pub required_argument : Text → Rule
required_argument id = record (new_rule id) { required = true }

-- `decode HEX`
abbrev pub decode_subcommand : App
decode_subcommand = with_rule (new_app (codes "decode")) (required_argument (codes "HEX"))

-- `respond MAC HEX`
abbrev pub respond_subcommand : App
respond_subcommand = with_rule (with_rule (new_app (codes "respond")) (required_argument (codes "MAC"))) (required_argument (codes "HEX"))

-- `check FILE`
abbrev pub check_subcommand : App
check_subcommand = with_rule (new_app (codes "check")) (required_argument (codes "FILE"))

-- `capture FILE`
abbrev pub capture_subcommand : App
capture_subcommand = with_rule (new_app (codes "capture")) (required_argument (codes "FILE"))

-- `replay SCRIPT`
abbrev pub replay_subcommand : App
replay_subcommand = with_rule (new_app (codes "replay")) (required_argument (codes "SCRIPT"))

-- `vectors`, without arguments
abbrev pub vectors_subcommand : App
vectors_subcommand = new_app (codes "vectors")

-- a subcommand is required, there is no subcommand `help`, and there is a version
abbrev pub program_alone : App
program_alone =
    let a = new_app (codes "lagtool") in
    record a { top = record a.top { subcommand_required = true; disable_help_subcommand = true; has_version = true } }

-- the program with its first subcommand
abbrev pub up_to_decode : App
up_to_decode = with_subcommand program_alone decode_subcommand.top

-- the program with its first two subcommands
abbrev pub up_to_respond : App
up_to_respond = with_subcommand up_to_decode respond_subcommand.top

-- the program with its first three subcommands
abbrev pub up_to_check : App
up_to_check = with_subcommand up_to_respond check_subcommand.top

-- the program with its first four subcommands
abbrev pub up_to_capture : App
up_to_capture = with_subcommand up_to_check capture_subcommand.top

-- the program with all its subcommands but the last
abbrev pub up_to_replay : App
up_to_replay = with_subcommand up_to_capture replay_subcommand.top

-- the program with its subcommands
abbrev pub program : App
program = with_subcommand up_to_replay vectors_subcommand.top

-- the name of the subcommand that a job is
abbrev pub subcommand_name : Job → Text
subcommand_name (Decode hex) = codes "decode"
subcommand_name (Respond mac hex) = codes "respond"
subcommand_name (Check file) = codes "check"
subcommand_name (Capture file) = codes "capture"
subcommand_name (Replay script) = codes "replay"
subcommand_name Vectors = codes "vectors"

-- the job has the values of these rows
abbrev pub HasValues : Job → List Row → Type 0
HasValues (Decode hex) rows = first_of (codes "HEX") rows ≡ Some hex.now
HasValues (Respond mac hex) rows = (first_of (codes "MAC") rows ≡ Some mac.now) × (first_of (codes "HEX") rows ≡ Some hex.now)
HasValues (Check file) rows = first_of (codes "FILE") rows ≡ Some file.now
HasValues (Capture file) rows = first_of (codes "FILE") rows ≡ Some file.now
HasValues (Replay script) rows = first_of (codes "SCRIPT") rows ≡ Some script.now
HasValues Vectors rows = ⊤

-- the job is the subcommand that was found, with its values
pub record IsJob (found : Option (Text × List Row)) (job : Job) : Type 0 where
  pub rows : List Row
  pub named : found ≡ Some (subcommand_name job, rows)
  pub values : HasValues job rows

-- there is a value for the argument with this name
abbrev pub has_text : Text → List Row → Bool
has_text id rows = is_some (first_of id rows)

-- a subcommand of the program was found, with each argument that it takes
abbrev pub has_each_argument : Option (Text × List Row) → Bool
has_each_argument None = false
has_each_argument (Some found) =
    if bytes_eq found.0 (codes "decode") then has_text (codes "HEX") found.1
    else (if bytes_eq found.0 (codes "respond") then has_text (codes "MAC") found.1 && has_text (codes "HEX") found.1
    else (if bytes_eq found.0 (codes "check") then has_text (codes "FILE") found.1
    else (if bytes_eq found.0 (codes "capture") then has_text (codes "FILE") found.1
    else (if bytes_eq found.0 (codes "replay") then has_text (codes "SCRIPT") found.1
    else bytes_eq found.0 (codes "vectors")))))

-- the kind of error with which help or the version is shown
abbrev pub IsHelpOrVersion : ErrorKind → Type 0
IsHelpOrVersion k = (k ≡ DisplayHelp) ⊎ (k ≡ DisplayVersion)

-- the fault has this error, by its kind
abbrev pub KeepsKind : Error → LineFault → Type 0
KeepsKind e (Help error) = (error ≡ e) × IsHelpOrVersion (kind_of e)
KeepsKind e (Usage error) = (error ≡ e) × (kind_of e ≢ DisplayHelp) × (kind_of e ≢ DisplayVersion) × (kind_of e ≢ OutOfMemory)
KeepsKind e NoMemory = kind_of e ≡ OutOfMemory

-- Help and the version are shown only if the words ask for them; a usage fault is another of the kinds of error that
-- the words have; memory may run out on any line.
abbrev pub IsCause : Kinds → LineFault → Type 0
IsCause kinds (Help error) = IsHelpOrVersion (kind_of error) × IsAmong (kind_of error) kinds
IsCause kinds (Usage error) = (kind_of error ≢ DisplayHelp) × (kind_of error ≢ DisplayVersion) × IsAmong (kind_of error) kinds
IsCause kinds NoMemory = ⊤
