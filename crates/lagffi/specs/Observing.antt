-- Churn detection and counters of a port, as a program in C has them (6.4.17, 7.3.3).
use Rattle.std.specs.Prelude.{ℕ, ◌==◌, replicate, if◌then◌else◌}
use Rattle.slowpdu.specs.declared.fault.WireFault.TheVariants.{Short}
use Rattle.lagsystem.specs.declared.received.Received.{Received}
use Rattle.lagsystem.specs.declared.received.Received.TheVariants.{Disabled, Dropped, Ignored, TookLacpdu, Respond, Released, Up}
use Rattle.dataplane.specs.declared.churn.ChurnMachine.{ChurnMachine}
use Rattle.dataplane.specs.declared.churn.ChurnState.{ChurnState}
use Rattle.dataplane.specs.declared.churn.ChurnState.TheVariants.{Monitor, NoChurn, Churn}
use Rattle.lagffi.specs.declared.observing.LagChurnMachine.{LagChurnMachine}

-- the number of a state
abbrev pub churn_number : ChurnState → ℕ
churn_number Monitor = 0
churn_number NoChurn = 1
churn_number Churn = 2

-- the state with this number; CHURN_MONITOR for a number of none
abbrev pub churn_state : ℕ → ChurnState
churn_state number = if number == 1 then NoChurn else if number == 2 then Churn else Monitor

-- a machine as a program in C has it
abbrev pub lag_machine : ChurnMachine → LagChurnMachine
lag_machine m = record { state = churn_number m.state; waited = m.waited; churns = m.churns; synchronizations = m.synchronizations }

-- the machine with these numbers
abbrev pub machine_of : LagChurnMachine → ChurnMachine
machine_of m = record { state = churn_state m.state; waited = m.waited; churns = m.churns; synchronizations = m.synchronizations }

-- what niw_receive answered, as far as the counters look at it, by its NIW_RECEIVED_..; another number is that of a link that is down
abbrev pub received_told : ℕ → Received
received_told what =
    if what == 1 then Dropped
    else if what == 2 then Ignored (Short 0)
    else if what == 3 then TookLacpdu
    else if what == 4 then Respond (replicate 124 0)
    else if what == 5 then Released 0
    else if what == 6 then Up (record { 0 = 0 })
    else Disabled
