-- Events as values of the logic: the name of an entry of a script, and the words behind it (profile).
use Rattle.std.specs.Prelude.{ℕ, Bool, List, [], ◌∷◌, codes, map, Option, Some, None}
use Rattle.lagscript.specs.declared.event.Event.{Event}
use Rattle.lagscript.specs.declared.event.Event.TheVariants as event
use Rattle.lagscript.specs.declared.forms.WordKind.{WordKind}
use Rattle.lagscript.specs.declared.forms.WordKind.TheVariants.{System, Ticks, Cable, Number, Aggregation, Octets}

-- what a word of an entry says: a system, a cable, another number, whether a link is aggregatable, or the octets of a frame
pub data WordValue : Type 0 where
  system : ℕ → WordValue
  cable : ℕ → WordValue
  number : ℕ → WordValue
  aggregation : Bool → WordValue
  octets : List ℕ → WordValue

-- an event: the name of its entry, and what the words behind it say
pub record EventValue : Type 0 where
  pub name : List ℕ
  pub words : List WordValue

-- the event with this name and these words
abbrev pub entry : List ℕ → List WordValue → EventValue
entry name words = record { name = name; words = words }

-- the event, as a value of the logic
abbrev pub event_value : Event → EventValue
event_value (event.Tick s n) = entry (codes "tick") (system s ∷ number n ∷ [])
event_value (event.Emit s port) = entry (codes "emit") (system s ∷ number port ∷ [])
event_value (event.Deliver c s) = entry (codes "deliver") (cable c ∷ system s ∷ [])
event_value (event.Lose c s) = entry (codes "lose") (cable c ∷ system s ∷ [])
event_value (event.Repeat c s) = entry (codes "repeat") (cable c ∷ system s ∷ [])
event_value (event.Cut c) = entry (codes "cut") (cable c ∷ [])
event_value (event.Join c) = entry (codes "join") (cable c ∷ [])
event_value (event.Sense c s) = entry (codes "sense") (cable c ∷ system s ∷ [])
event_value (event.Restart s) = entry (codes "restart") (system s ∷ [])
event_value (event.Configure s port change) = entry (codes "configure")
    (system s ∷ number port ∷ number change.key.0 ∷ number change.priority ∷ aggregation change.aggregatable ∷ [])
event_value (event.Offer s agg frame) = entry (codes "offer") (system s ∷ number agg.0 ∷ octets frame.items ∷ [])
event_value (event.Move s agg conv port) = entry (codes "move") (system s ∷ number agg.0 ∷ number conv ∷ number port ∷ [])
event_value (event.Force s agg conv) = entry (codes "force") (system s ∷ number agg.0 ∷ number conv ∷ [])

-- the events, as values of the logic
abbrev pub event_values : List Event → List EventValue
event_values events = map event_value events

-- how the entry of an event is written: its name, and what each word behind it has to be
pub record EntryForm : Type 0 where
  pub name : List ℕ
  pub kinds : List WordKind

-- the form with this name and words of these kinds
abbrev pub form : List ℕ → List WordKind → EntryForm
form name kinds = record { name = name; kinds = kinds }

-- the forms of the entries of all events
abbrev pub forms : List EntryForm
forms =
    form (codes "tick") (System ∷ Ticks ∷ [])
    ∷ form (codes "emit") (System ∷ Number ∷ [])
    ∷ form (codes "deliver") (Cable ∷ System ∷ [])
    ∷ form (codes "lose") (Cable ∷ System ∷ [])
    ∷ form (codes "repeat") (Cable ∷ System ∷ [])
    ∷ form (codes "cut") (Cable ∷ [])
    ∷ form (codes "join") (Cable ∷ [])
    ∷ form (codes "sense") (Cable ∷ System ∷ [])
    ∷ form (codes "restart") (System ∷ [])
    ∷ form (codes "configure") (System ∷ Number ∷ Number ∷ Number ∷ Aggregation ∷ [])
    ∷ form (codes "offer") (System ∷ Number ∷ Octets ∷ [])
    ∷ form (codes "move") (System ∷ Number ∷ Number ∷ Number ∷ [])
    ∷ form (codes "force") (System ∷ Number ∷ Number ∷ [])
    ∷ []

-- the number of the cable that a word says, if it says one
abbrev pub cable_said : WordValue → Option ℕ
cable_said (system s) = None
cable_said (cable c) = Some c
cable_said (number n) = None
cable_said (aggregation b) = None
cable_said (octets os) = None

-- the number of the system that a word says, if it says one
abbrev pub system_said : WordValue → Option ℕ
system_said (system s) = Some s
system_said (cable c) = None
system_said (number n) = None
system_said (aggregation b) = None
system_said (octets os) = None

-- the first number, or the second if there is no first
abbrev pub or_number : Option ℕ → Option ℕ → Option ℕ
or_number (Some n) other = Some n
or_number None other = other

-- the first number that f gives for one of these words
abbrev pub first_said : (WordValue → Option ℕ) → List WordValue → Option ℕ
first_said f [] = None
first_said f (w ∷ ws) = or_number (f w) (first_said f ws)

-- the number of the cable that an event names, if it names one
abbrev pub cable_named : Event → Option ℕ
cable_named e = first_said cable_said (event_value e).words

-- the number of the system that an event names, if it names one
abbrev pub system_named : Event → Option ℕ
system_named e = first_said system_said (event_value e).words
