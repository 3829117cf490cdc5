-- The second lines of standard error, which `--explain` asks for, each without `lagtool: ` before it (profile).
use Rattle.std.specs.Prelude.{◌≡◌, ℕ, ◌+◌, ◌++◌, Bool, true, false, List, ⊤, codes, decimal, length, take_while}
use Rattle.std.specs.Prelude.{if◌then◌else◌}
use Rattle.std.specs.Char.{is_ascii_hexdigit}
use Rattle.std.specs.Io.{StartsWith}
use Rattle.std.specs.Str.{bytes_eq}
use Rattle.std.specs.declared.io.ErrorKind.{ErrorKind}
use Rattle.std.specs.declared.io.ErrorKind.TheVariants.{IsADirectory, NotFound, PermissionDenied}
use Rattle.lagscript.specs.declared.fault.ScriptFault.{ScriptFault}
use Rattle.lagexplain.specs.Explanations.{SaysWhere, place_text}

-- standard input is told by -
abbrev pub is_input : List ℕ → Bool
is_input file = bytes_eq file (codes "-")

-- what a file is called: its word of the command line, or standard input
abbrev pub name_of : List ℕ → List ℕ
name_of file = if is_input file then codes "standard input" else file

-- what an error of this kind is; of another kind what the system says
abbrev pub SaysError : ErrorKind → List ℕ → Type 0
SaysError NotFound said = said ≡ codes "no such file"
SaysError PermissionDenied said = said ≡ codes "permission denied"
SaysError IsADirectory said = said ≡ codes "is a folder"
SaysError kind said = ⊤

-- of standard input that reading failed; of a file its name, and why
abbrev pub SaysUnreadOf : Bool → List ℕ → List ℕ → Type 0
SaysUnreadOf true file said = said ≡ codes "standard input: reading failed"
SaysUnreadOf false file said = StartsWith said (file ++ codes ": ")

-- why a file, or standard input, cannot be read
abbrev pub SaysUnread : List ℕ → List ℕ → Type 0
SaysUnread file said = SaysUnreadOf (is_input file) file said

-- NAME:LINE:COLUMN: octet N is not UTF-8; these octets, which are, stand before it
abbrev pub utf8_text : List ℕ → List ℕ → List ℕ
utf8_text file before = name_of file ++ (place_text before ++ (codes "octet "
    ++ (decimal (length before + 1) ++ codes " is not UTF-8")))

-- the name of a script, and an explanation of its fault
abbrev pub SaysFault : List ℕ → List ℕ → ScriptFault → List ℕ → Type 0
SaysFault file text fault said = (why : List ℕ) × (said ≡ name_of file ++ why) × SaysWhere text fault why

-- a hexadecimal digit of either case
abbrev pub is_digit : ℕ → Bool
is_digit octet = is_ascii_hexdigit octet

-- how many hexadecimal digits stand before the first other octet
abbrev pub digits_first : List ℕ → ℕ
digits_first word = length (take_while (λ octet. is_digit octet) word)

-- NAME: N hexadecimal digits: wanted WANTED
abbrev pub count_text : List ℕ → ℕ → List ℕ → List ℕ
count_text name count wanted = name ++ (codes ": " ++ (decimal count ++ (codes " hexadecimal digits: wanted " ++ wanted)))

-- NAME: character N, behind so many digits; the character follows
abbrev pub character_text : List ℕ → ℕ → List ℕ
character_text name digits = name ++ (codes ": character " ++ (decimal (digits + 1) ++ codes " "))
