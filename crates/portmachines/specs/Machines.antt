-- The variables of the machines of one port (6.4.7, 6.4.8, 6.4.10).
use Rattle.std.specs.Prelude.{ℕ, Bool, List}
use Rattle.lagtypes.specs.declared.party.Party.{Party}
use Rattle.lagtypes.specs.declared.party.Choice.{Choice}
use Rattle.slowpdu.specs.declared.pdu.Info.{Info}
use Rattle.portmachines.specs.declared.receive.ReceiveState.{ReceiveState}
use Rattle.portmachines.specs.declared.periodic.PeriodicState.{PeriodicState}
use Rattle.portmachines.specs.declared.mux.MuxState.{MuxState}

-- A timer holds the ticks of 100 ms that it has left. `ages`: how many ticks ago each LACPDU was sent, the oldest
-- first.
pub record Machines : Type 0 where
  pub party : Party
  pub active : Bool
  pub short : Bool
  pub enabled : Bool
  pub receive : ReceiveState
  pub current_while : ℕ
  pub partner : Info
  pub defaulted : Bool
  pub expired : Bool
  pub periodic : PeriodicState
  pub periodic_timer : ℕ
  pub mux : MuxState
  pub wait_while : ℕ
  pub choice : Choice
  pub ntt : Bool
  pub ages : List ℕ
