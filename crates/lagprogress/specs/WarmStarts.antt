-- What holds of a system that a warm start made (profile).
use Rattle.std.specs.Prelude.{ℕ, List}
use Rattle.lagsystem.specs.declared.config.Config.{Config}
use Rattle.lagsystem.specs.State.{SystemState}
use Rattle.dataplane.specs.declared.resuming.SavedPort.{SavedPort}
use Rattle.dataplane.specs.Adopting.{Adoption, Adopts}
use Rattle.dataplane.specs.Resuming.{IsResumed}
use Rattle.lagprogress.specs.Steady.{IsSteadySystem}

-- A system that `resume` made, and that then adopted these conversations, is sound, with its timers within their bounds, and no port is held.
abbrev pub WarmStartIsSteady : (ℕ → ℕ → ℕ → Type 0) → Type 0
WarmStartIsSteady gives = (config : Config) (saved : List SavedPort) (adoptions : List Adoption) (resumed new : SystemState)
    → IsResumed gives config saved resumed → Adopts resumed adoptions new → IsSteadySystem new
