-- Bounds on the number of rows that may still fire, by which the loops are shown to end (profile).
use Rattle.std.specs.Prelude.{ℕ, Bool, true, false}
use Rattle.lagtypes.specs.declared.party.Choice.{Choice}
use Rattle.lagtypes.specs.declared.party.Choice.TheVariants.{Unselected, Selected, Standby}
use Rattle.portmachines.specs.declared.mux.MuxState.{MuxState}
use Rattle.portmachines.specs.declared.mux.MuxState.TheVariants.{Detached, Waiting, Attached, CollectingDistributing}
use Rattle.portmachines.specs.declared.receive.ReceiveState.{ReceiveState}
use Rattle.portmachines.specs.declared.receive.ReceiveState.TheVariants.{Initialize, PortDisabled, Expired, Defaulted, Current}
use Rattle.portmachines.specs.declared.periodic.PeriodicState.{PeriodicState}
use Rattle.portmachines.specs.declared.periodic.PeriodicState.TheVariants.{NoPeriodic, Fast, Slow, PeriodicTx}
use Rattle.portmachines.specs.Machines.{Machines}
use Rattle.portmachines.specs.Mux.{partner_synchronized}
use Rattle.portmachines.specs.Periodic.{is_silent, timer_expired, partner_short}
use Rattle.portmachines.specs.Receive.{current_while_expired}

-- of the mux machine, by: Selected, Ready, and Synchronization of the partner
abbrev mux_bound : Choice → Bool → Bool → MuxState → ℕ
mux_bound (Selected agg) true true Detached = 3
mux_bound (Selected agg) true false Detached = 2
mux_bound (Selected agg) false synchronized Detached = 1
mux_bound (Selected agg) true true Waiting = 2
mux_bound (Selected agg) true false Waiting = 1
mux_bound (Selected agg) false synchronized Waiting = 0
mux_bound (Selected agg) ready true Attached = 1
mux_bound (Selected agg) ready false Attached = 0
mux_bound (Selected agg) ready true CollectingDistributing = 0
mux_bound (Selected agg) ready false CollectingDistributing = 1
mux_bound (Standby agg) ready synchronized Detached = 1
mux_bound (Standby agg) ready synchronized Waiting = 0
mux_bound (Standby agg) ready synchronized Attached = 2
mux_bound (Standby agg) ready synchronized CollectingDistributing = 3
mux_bound Unselected ready synchronized Detached = 0
mux_bound Unselected ready synchronized Waiting = 1
mux_bound Unselected ready synchronized Attached = 1
mux_bound Unselected ready synchronized CollectingDistributing = 2

-- of the periodic machine, by: link down or both ends passive, periodic_timer expired, and Short Timeout of the partner
abbrev periodic_bound : Bool → Bool → Bool → PeriodicState → ℕ
periodic_bound true expired short NoPeriodic = 0
periodic_bound true expired short Fast = 1
periodic_bound true expired short Slow = 1
periodic_bound true expired short PeriodicTx = 1
periodic_bound false expired true NoPeriodic = 1
periodic_bound false expired false NoPeriodic = 2
periodic_bound false true short Fast = 2
periodic_bound false false true Fast = 0
periodic_bound false false false Fast = 1
periodic_bound false true short Slow = 2
periodic_bound false false true Slow = 2
periodic_bound false false false Slow = 0
periodic_bound false expired short PeriodicTx = 1

-- of the receive machine, by: port_enabled, and current_while expired
abbrev receive_bound : Bool → Bool → ReceiveState → ℕ
receive_bound false expired PortDisabled = 0
receive_bound false expired Initialize = 1
receive_bound false expired Expired = 1
receive_bound false expired Defaulted = 1
receive_bound false expired Current = 1
receive_bound true expired PortDisabled = 1
receive_bound true expired Initialize = 2
receive_bound true true Expired = 1
receive_bound true false Expired = 0
receive_bound true expired Defaulted = 0
receive_bound true true Current = 1
receive_bound true false Current = 0

-- how many mux rows may still fire
abbrev pub mux_rows_to_fire : Bool → Machines → ℕ
mux_rows_to_fire ready p = mux_bound p.choice ready (partner_synchronized p) p.mux

-- how many periodic rows may still fire
abbrev pub periodic_rows_to_fire : Machines → ℕ
periodic_rows_to_fire p = periodic_bound (is_silent p) (timer_expired p) (partner_short p) p.periodic

-- how many receive rows may still fire
abbrev pub receive_rows_to_fire : Machines → ℕ
receive_rows_to_fire p = receive_bound p.enabled (current_while_expired p) p.receive
