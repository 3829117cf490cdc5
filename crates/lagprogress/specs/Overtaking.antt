-- Runs of two systems in which LACPDUs overtake data, as where a sender or a link has a queue of its own for them (profile).
use Rattle.std.specs.Prelude.{◌≡◌, ℕ, List, [], ◌∷◌, Option, Some, None}
use Rattle.lagmodel.specs.Overtaking.{Overtakes}
use Rattle.lagmodel.specs.World.{Event, Happens, IsWorldSetup, Message, Side, World, WorldSetup, first_world, with_messages}

-- that happens on some cable
pub record OvertakesOnCable (old new : World) : Type 0 where
  pub cable : ℕ
  pub to : Side
  pub messages : List Message
  pub overtakes : Overtakes (old.on_cable to cable) messages
  pub new_is : new ≡ with_messages old cable to messages

-- a run: events one after another, where None stands for an LACPDU that goes by one message
abbrev pub OvertakingRun : WorldSetup → List (Option Event) → World → World → Type 0
OvertakingRun x [] old new = new ≡ old
OvertakingRun x (Some e ∷ es) old new = (mid : World) × Happens x e old mid × OvertakingRun x es mid new
OvertakingRun x (None ∷ es) old new = (mid : World) × OvertakesOnCable old mid × OvertakingRun x es mid new

-- the statement holds after each of them, from the start of any two systems on cables
abbrev pub HoldsWhereLacpdusOvertake : (WorldSetup → World → Type 0) → Type 0
HoldsWhereLacpdusOvertake P = (x : WorldSetup) (es : List (Option Event)) (w : World) → IsWorldSetup x
    → OvertakingRun x es (first_world x) w → P x w
