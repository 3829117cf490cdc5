-- The system of a handle, and what is kept beside it (profile).
use Rattle.std.specs.Prelude.{ℕ, List, Option, None, Some}
use Rattle.lagsystem.specs.State.{SystemState, SystemValue}
use Rattle.dataplane.specs.declared.answering.marker_note.MarkerNote.{MarkerNote}
use Rattle.lagffi.specs.declared.stored.Stored.{Stored}

-- the state of the system, the number of the distribution algorithm, and whether the peers of the ports answer markers
pub record HeldValue : Type 0 where
  pub state : SystemState
  pub algorithm : ℕ
  pub answering : List MarkerNote

-- the value of a system under this algorithm and with these notes, if there is one
abbrev pub stored_value : ℕ → List MarkerNote → Option (SystemValue (Unit {0})) → Option HeldValue
stored_value algorithm notes None = None
stored_value algorithm notes (Some system) = Some (record { state = system.state; algorithm = algorithm; answering = notes })

-- the value of the system that the handle holds, if it holds one
abbrev pub held_value : Option Stored → Option HeldValue
held_value None = None
held_value (Some kept) = stored_value kept.algorithm kept.answering kept.system
