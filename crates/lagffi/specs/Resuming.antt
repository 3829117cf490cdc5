-- What lagffi_resume makes of a configuration and saved ports, and what it tells.
use Rattle.std.specs.Prelude.{◌≡◌, ◌⊎◌, ℕ, List, None, true}
use Rattle.distributor.specs.Calls.{index_by_number}
use Rattle.lagsystem.specs.declared.config.Config.{Config}
use Rattle.lagsystem.specs.State.{SystemState}
use Rattle.dataplane.specs.declared.resuming.ResumeFault.{ResumeFault}
use Rattle.dataplane.specs.declared.resuming.ResumeFault.TheVariants.{Stale, New, NotDistributing}
use Rattle.dataplane.specs.declared.resuming.SavedPort.{SavedPort}
use Rattle.dataplane.specs.Resuming.{IsResumed, MayRefuse}
use Rattle.lagffi.specs.Algorithms.{is_algorithm}
use Rattle.lagffi.specs.Made.{IsConfigOf, made_refused, refusal_of, why_refused}
use Rattle.lagffi.specs.declared.made.LagConfig.{LagConfig}
use Rattle.lagffi.specs.declared.made.LagMade.{LagMade}
use Rattle.lagffi.specs.declared.made.LagPort.{LagPort}

-- why there is no warm start: 23 or 7, with the port
abbrev pub not_resumed : ResumeFault → LagMade
not_resumed (Stale port) = record { status = 23; reason = 0; place = port }
not_resumed (New fault) = made_refused fault
not_resumed (NotDistributing port) = record { status = 7; reason = 0; place = port }

-- the algorithm of the calls of a warm start, none of which picks a port
abbrev pub by_number : ℕ → ℕ → ℕ → Type 0
by_number conv count place = place ≡ index_by_number conv count

-- the state is that of a warm start with this configuration, which is accepted, and these saved ports
pub record IsResumedOf (config : LagConfig) (of_keys : List ℕ) (of_ports : List LagPort) (saved : List SavedPort) (s : SystemState) : Type 0 where
  pub accepted : refusal_of config of_keys of_ports ≡ None
  pub algorithm : is_algorithm config.algorithm ≡ true
  pub taken : Config
  pub same : IsConfigOf config of_keys of_ports taken
  pub resumed : IsResumed by_number taken saved s

-- there is no warm start of an accepted configuration, and this is the answer
pub record IsNotResumed (config : LagConfig) (of_keys : List ℕ) (of_ports : List LagPort) (saved : List SavedPort) (answer : LagMade) : Type 0 where
  pub accepted : refusal_of config of_keys of_ports ≡ None
  pub algorithm : is_algorithm config.algorithm ≡ true
  pub taken : Config
  pub same : IsConfigOf config of_keys of_ports taken
  pub fault : ResumeFault
  pub refused : MayRefuse by_number taken saved fault
  pub told : answer ≡ not_resumed fault

-- why there is none: as `new`, or by the saved ports
abbrev pub MayNotResume : LagConfig → List ℕ → List LagPort → List SavedPort → LagMade → Type 0
MayNotResume config keys ports saved answer = (answer ≡ why_refused config keys ports) ⊎ IsNotResumed config keys ports saved answer
