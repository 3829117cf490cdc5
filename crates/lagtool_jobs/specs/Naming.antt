-- The cables and systems that the events of a script name.
use Rattle.std.specs.Prelude.{◌≡◌, ℕ, ◌&&◌, Bool, true, List, Option, Some, None, nat_le}
use Rattle.std.specs.List.{list_all}
use Rattle.lagscript.specs.declared.event.Event.{Event}
use Rattle.lagscript.specs.EventValues.{cable_named, system_named}
use Rattle.lagworld.specs.Events.{has_system}

-- the number, if there is one, is that of one of this many cables, which are numbered from 1
abbrev pub is_cable : ℕ → Option ℕ → Bool
is_cable cables None = true
is_cable cables (Some c) = nat_le 1 c && nat_le c cables

-- the event names only a cable of this many, and only system 1 or 2
abbrev pub names_existing : ℕ → Event → Bool
names_existing cables e = is_cable cables (cable_named e) && has_system (system_named e)

-- each of the events names only a cable of this many, and only system 1 or 2
abbrev pub AllNameExisting : ℕ → List Event → Type 0
AllNameExisting cables events = list_all (names_existing cables) events ≡ true
