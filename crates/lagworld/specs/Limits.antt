-- Which events may be refused for memory (profile).
use Rattle.std.specs.Prelude.{◌≡◌, ◌↔◌, ℕ, true}
use Rattle.std.specs.Global.{Vec}
use Rattle.lagtypes.specs.declared.identifiers.AggId.{AggId}
use Rattle.lagscript.specs.declared.event.Event.{Event}
use Rattle.lagscript.specs.declared.event.Event.TheVariants as event
use Rattle.lagworld.specs.Events.{may_take_memory}

-- the event is one of the four kinds that make or move frames
pub data HandlesFrames : Event → Type 0 where
  emit : (system port : ℕ) → HandlesFrames (event.Emit system port)
  deliver : (cable system : ℕ) → HandlesFrames (event.Deliver cable system)
  repeat : (cable system : ℕ) → HandlesFrames (event.Repeat cable system)
  offer : (system : ℕ) (agg : AggId) (frame : Vec ℕ) → HandlesFrames (event.Offer system agg frame)

-- the events that may take memory are those of these four kinds; so no other is refused for memory, whatever it names
abbrev pub MayTakeMemory : Type 0
MayTakeMemory = (e : Event) → (may_take_memory e ≡ true) ↔ HandlesFrames e
