-- Which entry of a script is at fault, and which of its words (profile).
use Rattle.std.specs.Prelude.{ℕ, ◌+◌, ◌-◌, Bool, false, List, [], ◌∷◌, codes, is_some, nat_lt, slice_get}
use Rattle.std.specs.Prelude.{if◌then◌else◌, Option, Some, None, option_and_then}
use Rattle.std.specs.Result.{result_err}
use Rattle.toml.specs.Data.{Members, as_str, at, get_member}
use Rattle.lagscript.specs.Entries.{aggregation_word, cable_word, hex_word, number_word, system_word, ticks_word}
use Rattle.lagscript.specs.declared.fault.EntryFault.{EntryFault}
use Rattle.lagscript.specs.declared.forms.WordKind.{WordKind}
use Rattle.lagscript.specs.declared.forms.WordKind.TheVariants.{System, Ticks, Cable, Number, Aggregation, Octets}

-- the fault of a word that is none of its kind, in a script with this many cables
abbrev pub word_fault : ℕ → WordKind → List ℕ → Option EntryFault
word_fault cables System w = result_err (system_word w)
word_fault cables Ticks w = result_err (ticks_word w)
word_fault cables Cable w = result_err (cable_word cables w)
word_fault cables Number w = result_err (number_word w)
word_fault cables Aggregation w = result_err (aggregation_word w)
word_fault cables Octets w = result_err (hex_word w)

-- the word is none of its kind
abbrev pub is_wrong : ℕ → WordKind → List ℕ → Bool
is_wrong cables kind w = is_some (word_fault cables kind w)

-- the same of a word that may have no kind; then it is not wrong
abbrev pub is_wrong_at : ℕ → Option WordKind → List ℕ → Bool
is_wrong_at cables None w = false
is_wrong_at cables (Some kind) w = is_wrong cables kind w

-- the place, from 0, of the first of these words that is none of its kind; the first of them stands at this place
abbrev pub first_wrong : ℕ → List WordKind → ℕ → List (List ℕ) → Option ℕ
first_wrong cables kinds place [] = None
first_wrong cables kinds place (w ∷ ws) =
    if is_wrong_at cables (slice_get kinds place) w then Some place else first_wrong cables kinds (place + 1) ws

-- the fault of the word at this place, from 0, if it is none of the kind there
abbrev pub fault_at : ℕ → List WordKind → List (List ℕ) → ℕ → Option EntryFault
fault_at cables kinds words place = option_and_then (λ kind. option_and_then (word_fault cables kind) (slice_get words place))
    (slice_get kinds place)

-- the fault of the first of these words that is none of its kind
abbrev pub first_fault : ℕ → List WordKind → List (List ℕ) → Option EntryFault
first_fault cables kinds words = option_and_then (fault_at cables kinds words) (first_wrong cables kinds 0 words)

-- the text of the entry at this place, from 1; None if there is none
abbrev pub entry_at : ℕ → Members → Option (List ℕ)
entry_at place top =
    if nat_lt 0 place then option_and_then as_str (option_and_then (at (place - 1)) (get_member (codes "events") top)) else None
