-- What the commands of the program return and have written (profile).
use Rattle.std.specs.Prelude.{◌≡◌, ⊤, ℕ, Bool, List, Option, Result, Ok, Err, IsErr, if◌then◌else◌}
use Rattle.hex.specs.Hex.{decode_of}
use Rattle.lagtool_jobs.specs.declared.fault.ToolFault.{ToolFault}
use Rattle.lagtool_jobs.specs.declared.fault.ToolFault.TheVariants.{Read, Write, NoMemory, Script, NotHex, NotMac}
use Rattle.lagtool_jobs.specs.Reports.{IsMac, IsAnswerToHex, IsTextOfHex}
use Rattle.lagstreams.specs.Sinks.{WritesPart, SinkState, WritesWhole}

-- why a text in hexadecimal gives no octets: it is not hexadecimal, or memory was refused
abbrev pub HasNoOctets : List ℕ → ToolFault → Type 0
HasNoOctets hex NotHex = IsErr (decode_of hex)
HasNoOctets hex NoMemory = ⊤
HasNoOctets hex Read = ⊥
HasNoOctets hex Write = ⊥
HasNoOctets hex (Script fault) = ⊥
HasNoOctets hex NotMac = ⊥

-- what `show` returns and has written: the whole text, a beginning of it, or nothing
abbrev pub Shows : {W : Type 0} → (W → Option (List ℕ)) → List ℕ → SinkState W → SinkState W → Result Bool ToolFault → Type 0
Shows contents hex old new (Ok accepted) = (text : List ℕ) × IsTextOfHex hex text accepted × WritesWhole contents old new text
Shows contents hex old new (Err Write) = (text : List ℕ) × (accepted : Bool) × IsTextOfHex hex text accepted
    × WritesPart contents old new text
Shows contents hex old new (Err NoMemory) = new ≡ old
Shows contents hex old new (Err NotHex) = IsErr (decode_of hex) × (new ≡ old)
Shows contents hex old new (Err Read) = ⊥
Shows contents hex old new (Err (Script fault)) = ⊥
Shows contents hex old new (Err NotMac) = ⊥

-- these are the digits of a MAC address
abbrev pub SaysMac : List ℕ → Type 0
SaysMac mac = (source : List ℕ) × IsMac mac source

-- what `reply` returns and has written; the address is checked first
abbrev pub Replies : {W : Type 0} → (W → Option (List ℕ)) → List ℕ → List ℕ → SinkState W → SinkState W → Result Bool ToolFault → Type 0
Replies contents mac hex old new (Ok answered) = (text : List ℕ) × IsAnswerToHex mac hex text answered × WritesWhole contents old new text
Replies contents mac hex old new (Err Write) = (text : List ℕ) × (answered : Bool) × IsAnswerToHex mac hex text answered
    × WritesPart contents old new text
Replies contents mac hex old new (Err NoMemory) = SaysMac mac × (new ≡ old)
Replies contents mac hex old new (Err NotHex) = SaysMac mac × IsErr (decode_of hex) × (new ≡ old)
Replies contents mac hex old new (Err Read) = ⊥
Replies contents mac hex old new (Err (Script fault)) = ⊥
Replies contents mac hex old new (Err NotMac) = (SaysMac mac → ⊥) × (new ≡ old)

-- the exit status of the program for this result
abbrev pub status_of : Result Bool ToolFault → ℕ
status_of (Ok accepted) = if accepted then 0 else 1
status_of (Err fault) = 2
