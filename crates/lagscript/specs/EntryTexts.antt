-- The text of an event as the entry of a script (profile).
use Rattle.std.specs.Prelude.{ℕ, ◌++◌, Bool, List, [], ◌∷◌, codes, decimal, flat_map, if◌then◌else◌}
use Rattle.lagtypes.specs.Texts.{hex_text}
use Rattle.lagsystem.specs.declared.config.PortChange.{PortChange}
use Rattle.lagscript.specs.EventValues.{EventValue, WordValue, system, cable, number, aggregation, octets}

-- aggregatable or individual
abbrev pub aggregation_text : Bool → List ℕ
aggregation_text aggregatable = if aggregatable then codes "aggregatable" else codes "individual"

-- the octets of a frame, each as two hexadecimal digits
abbrev pub frame_text : List ℕ → List ℕ
frame_text os = flat_map hex_text os

-- a word of an entry: a number without leading zeros, octets in lower case
abbrev pub word_text : WordValue → List ℕ
word_text (system s) = decimal s
word_text (cable c) = decimal c
word_text (number n) = decimal n
word_text (aggregation aggregatable) = aggregation_text aggregatable
word_text (octets os) = frame_text os

-- words, with spaces between
abbrev pub words_text : List WordValue → List ℕ
words_text [] = []
words_text (w ∷ []) = word_text w
words_text (w ∷ v ∷ ws) = word_text w ++ 32 ∷ words_text (v ∷ ws)

-- an event as the entry of a script: its name, and each word behind a space
abbrev pub entry_text : EventValue → List ℕ
entry_text e = e.name ++ 32 ∷ words_text e.words

-- the new values of a port in `configure`: KEY PRIORITY KIND
abbrev pub change_text : PortChange → List ℕ
change_text c = words_text (number c.key.0 ∷ number c.priority ∷ aggregation c.aggregatable ∷ [])
