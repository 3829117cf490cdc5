-- The results of reading, with lists and tables in the place of Vecs; and the result of reading an entry.
use Rattle.std.specs.Prelude.{◌≡◌, ⊤, ℕ, List, Result, Ok, Err, String}
use Rattle.std.specs.Borrow.{Bor}
use Rattle.std.specs.BTreeMap.{BTreeMap}
use Rattle.std.specs.declared.alloc.Global.{Global}
use Rattle.toml.specs.Data.{Members}
use Rattle.toml.specs.View.{table_view}
use Rattle.toml.specs.declared.value.Value.{Value}
use Rattle.lagscript.specs.EventValues.{EventValue, event_value}
use Rattle.lagscript.specs.declared.entries.EntryError.{EntryError}
use Rattle.lagscript.specs.declared.entries.EntryError.TheVariants.{Fault, NoMemory}
use Rattle.lagscript.specs.declared.event.Event.{Event}
use Rattle.lagscript.specs.declared.fault.EntryFault.{EntryFault}

-- a word of the caller, borrowed
abbrev pub Word : Type 0
Word = Bor (List ℕ)

-- the octets of a word
abbrev pub word_octets : Word → List ℕ
word_octets w = w.now

-- the keys and values of a table that is only read
abbrev pub table_members : Bor (BTreeMap (String Global) Value) → Members
table_members t = table_view t.now

-- the stated event or fault is returned, or memory ran out
abbrev pub ReadsEntryAs : Result EventValue EntryFault → Result Event EntryError → Type 0
ReadsEntryAs stated (Ok e) = stated ≡ Ok (event_value e)
ReadsEntryAs stated (Err (Fault f)) = stated ≡ Err f
ReadsEntryAs stated (Err NoMemory) = ⊤
