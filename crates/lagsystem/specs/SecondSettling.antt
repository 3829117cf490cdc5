-- A second settling changes nothing.
use Rattle.lagsystem.specs.Settling.{Settling}
use Rattle.lagsystem.specs.Sound.{HasPorts}
use Rattle.lagsystem.specs.State.{SystemState}

-- a settling right after a settling leaves the system as it is
abbrev pub SecondSettlingIsNothing : Type 0
SecondSettlingIsNothing = (old new : SystemState) → HasPorts old → Settling old new → Settling new new
