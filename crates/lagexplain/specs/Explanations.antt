-- Where a text is no script, which its explanation says first (profile).
use Rattle.std.specs.Prelude.{ℕ, ◌++◌, ◌≤◌, List, [], ◌∷◌, codes, decimal, length, take, Option, Some, None}
use Rattle.std.specs.Io.{StartsWith}
use Rattle.toml.specs.Data.{Members}
use Rattle.toml.specs.Parse.{parse_document}
use Rattle.lagscript.specs.declared.fault.ScriptFault.{ScriptFault}
use Rattle.lagscript.specs.declared.fault.ScriptFault.TheVariants as fault
use Rattle.lagexplain.specs.TextPlaces.{column_behind, line_behind}

-- a system, by its number
abbrev pub system_numbered : ℕ → List ℕ
system_numbered s = codes "system " ++ decimal s

-- a port of a system, by its place among the ports
abbrev pub port_at : ℕ → ℕ → List ℕ
port_at s place = system_numbered s ++ (codes " port " ++ decimal place)

-- a cable, by its place
abbrev pub cable_at : ℕ → List ℕ
cable_at place = codes "cable " ++ decimal place

-- What of a script a fault names, and what follows it always: a system, a port, a cable, an entry; nothing where it is of the
-- whole.
abbrev pub subject_text : ScriptFault → List ℕ
subject_text fault.NotToml = []
subject_text fault.ExtraKey = []
subject_text fault.Systems = []
subject_text (fault.SystemExtraKey s) = system_numbered s ++ codes ": "
subject_text (fault.SystemValue s key) = system_numbered s ++ codes ": "
subject_text (fault.PortExtraKey s place) = port_at s place ++ codes ": "
subject_text (fault.PortValue s place key) = port_at s place ++ codes ": "
subject_text fault.Cables = []
subject_text (fault.CableExtraKey place) = cable_at place ++ codes ": "
subject_text (fault.CableEnds place) = cable_at place ++ codes ": "
subject_text (fault.CableLimit place) = cable_at place ++ codes ": "
subject_text fault.Events = []
subject_text (fault.Entry place cause) = codes "event " ++ (decimal place ++ codes " ")
subject_text (fault.Ports s) = system_numbered s ++ codes " has "
subject_text (fault.AggregatorCount s) = system_numbered s ++ codes " has "
subject_text (fault.PortNumber s place) = port_at s place ++ codes ": "
subject_text (fault.MaxLinks s) = system_numbered s ++ codes ": "
subject_text (fault.ConversationCount s) = system_numbered s ++ codes ": "
subject_text fault.SameSystem = []
subject_text (fault.CableEnd place) = cable_at place ++ codes ": "
subject_text fault.NoMemory = []

-- `:LINE:COLUMN: `, the place behind these octets
abbrev pub place_text : List ℕ → List ℕ
place_text before = 58 ∷ (decimal (line_behind before) ++ 58 ∷ (decimal (column_behind before) ++ codes ": "))

-- a place in the text, or its end, stands first
abbrev pub SaysPlace : List ℕ → List ℕ → Type 0
SaysPlace text why = (n : ℕ) × (n ≤ length text) × StartsWith why (place_text (take n text))

-- a place stands first if the text is no TOML, else `: ` and what the fault names
abbrev pub SaysWhereIn : Option Members → List ℕ → ScriptFault → List ℕ → Type 0
SaysWhereIn None text e why = SaysPlace text why
SaysWhereIn (Some top) text e why = StartsWith why (codes ": " ++ subject_text e)

-- the explanation of this fault of a text says first where it is
abbrev pub SaysWhere : List ℕ → ScriptFault → List ℕ → Type 0
SaysWhere text e why = SaysWhereIn (parse_document text) text e why
