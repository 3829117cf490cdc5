-- The entries of a script's list of events (profile).
use Rattle.std.specs.Prelude.{ℕ, ◌==◌, ◌&&◌, ◌||◌, Bool, true, false, List, [], ◌∷◌, codes, find, length, nat_le, if◌then◌else◌}
use Rattle.std.specs.Prelude.{Option, Some, None, option_map, take, Result, Ok, Err}
use Rattle.std.specs.Str.{bytes_eq}
use Rattle.lagscript.specs.EventValues.{EntryForm, EventValue, WordValue, system, cable, number, aggregation, octets, event_value, forms}
use Rattle.lagscript.specs.Readings.{◌>>=◌, each_at_place, or_fault, if_or_fault}
use Rattle.lagscript.specs.Words.{octets_of}
use Rattle.lagtypes.specs.Words.{number_below, words_of}
use Rattle.lagscript.specs.declared.event.Event.{Event}
use Rattle.lagscript.specs.declared.fault.EntryFault.{EntryFault}
use Rattle.lagscript.specs.declared.fault.EntryFault.TheVariants as entry
use Rattle.lagscript.specs.declared.fault.ScriptFault.{ScriptFault}
use Rattle.lagscript.specs.declared.forms.Form.{Form}
use Rattle.lagscript.specs.declared.forms.WordKind.{WordKind}
use Rattle.lagscript.specs.declared.forms.WordKind.TheVariants.{System, Ticks, Cable, Number, Aggregation, Octets}
use Rattle.lagscript.specs.declared.fault.ScriptFault.TheVariants as fault

-- a number from 0 to 65535 in a word of decimal digits
abbrev pub number_word : List ℕ → Result ℕ EntryFault
number_word w = or_fault entry.Number (number_below 65536 w)

-- the number of a system, 1 or 2
abbrev pub system_word : List ℕ → Result ℕ EntryFault
system_word w = number_word w >>= λ n. if_or_fault ((n == 1) || (n == 2)) entry.System (Ok n)

-- the number of a cable, from 1 up to this many
abbrev pub cable_word : ℕ → List ℕ → Result ℕ EntryFault
cable_word cables w = number_word w >>= λ n. if_or_fault (nat_le 1 n && nat_le n cables) entry.Cable (Ok n)

-- a number of ticks, 1 to 65535
abbrev pub ticks_word : List ℕ → Result ℕ EntryFault
ticks_word w = number_word w >>= λ n. if_or_fault (nat_le 1 n) entry.Number (Ok n)

-- `aggregatable` as true, `individual` as false
abbrev pub aggregation_word : List ℕ → Result Bool EntryFault
aggregation_word w =
    if bytes_eq w (codes "aggregatable") then Ok true
    else if bytes_eq w (codes "individual") then Ok false
    else Err entry.Kind

-- the octets of a frame in hexadecimal
abbrev pub hex_word : List ℕ → Result (List ℕ) EntryFault
hex_word w = or_fault entry.Hex (octets_of w)

-- what a word of this kind says, in a script with this many cables; or its fault
abbrev pub word_value : ℕ → WordKind → List ℕ → Result WordValue EntryFault
word_value cables System w = system_word w >>= λ n. Ok (system n)
word_value cables Ticks w = ticks_word w >>= λ n. Ok (number n)
word_value cables Cable w = cable_word cables w >>= λ n. Ok (cable n)
word_value cables Number w = number_word w >>= λ n. Ok (number n)
word_value cables Aggregation w = aggregation_word w >>= λ b. Ok (aggregation b)
word_value cables Octets w = hex_word w >>= λ os. Ok (octets os)

-- what these words say, each of its kind; or the fault of the first that is none
abbrev pub words_said : ℕ → List WordKind → List (List ℕ) → Result (List WordValue) EntryFault
words_said cables (kind ∷ kinds) (w ∷ ws) = word_value cables kind w >>= λ said. words_said cables kinds ws >>= λ rest. Ok (said ∷ rest)
words_said cables _ _ = Ok []

-- The event with this form and these words, in a script with this many cables; Count if there are more or fewer words than
-- kinds, else the fault of the first word that is none of its kind.
abbrev pub event_of_form : ℕ → EntryForm → List (List ℕ) → Result EventValue EntryFault
event_of_form cables f ws =
    if_or_fault (length ws == length f.kinds) entry.Count (words_said cables f.kinds ws >>= λ said. Ok (record { name = f.name; words = said }))

-- the form of the entries with this name; None if no event has it
abbrev pub form_named : List ℕ → Option EntryForm
form_named name = find (λ f. bytes_eq name f.name) forms

-- what the words behind a name have to be; None if no event has it
abbrev pub kinds_named : List ℕ → Option (List WordKind)
kinds_named name = option_map (λ f. f.kinds) (form_named name)

-- what the words behind the name have to be, of a form in the sources
abbrev pub kinds_of_form : Form → List WordKind
kinds_of_form f = take f.count f.kinds

-- the event with a form, if there is one, and these words; Word if there is no form
abbrev pub event_of_form_if_any : ℕ → Option EntryForm → List (List ℕ) → Result EventValue EntryFault
event_of_form_if_any cables None ws = Err entry.Word
event_of_form_if_any cables (Some f) ws = event_of_form cables f ws

-- the event by its first word and the words after it; Word if no event has this name
abbrev pub event_named : ℕ → List ℕ → List (List ℕ) → Result EventValue EntryFault
event_named cables name ws = event_of_form_if_any cables (form_named name) ws

-- an event that was read, as a value of the logic; or its fault
abbrev pub event_result_value : Result Event EntryFault → Result EventValue EntryFault
event_result_value (Ok e) = Ok (event_value e)
event_result_value (Err e) = Err e

-- the event of all words of an entry; Word if there is none
abbrev pub event_of_words : ℕ → List (List ℕ) → Result EventValue EntryFault
event_of_words cables [] = Err entry.Word
event_of_words cables (name ∷ ws) = event_named cables name ws

-- the event in the text of an entry of a script with this many cables
abbrev pub event_in : ℕ → List ℕ → Result EventValue EntryFault
event_in cables text = event_of_words cables (words_of text)

-- the fault of the entry at this place
abbrev pub at_entry : {A : Type 0} → ℕ → Result A EntryFault → Result A ScriptFault
at_entry place (Ok x) = Ok x
at_entry place (Err e) = Err (fault.Entry place e)

-- the event in the text of the entry at this place, counted from 1
abbrev pub event_at : ℕ → ℕ → List ℕ → Result EventValue ScriptFault
event_at cables place text = at_entry place (event_in cables text)

-- the events in the texts of entries, the first of them at this place
abbrev pub events_from : ℕ → ℕ → List (List ℕ) → Result (List EventValue) ScriptFault
events_from cables = each_at_place (event_at cables)
