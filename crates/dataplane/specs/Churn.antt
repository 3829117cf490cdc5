-- Churn detection (6.4.17): the machines of Actor and Partner are alike, and here is one of them.
use Rattle.std.specs.Prelude.{ℕ, ◌+◌, Bool, not, nat_lt, if◌then◌else◌}
use Rattle.dataplane.specs.Holding.{counted}
use Rattle.dataplane.specs.declared.churn.ChurnMachine.{ChurnMachine}
use Rattle.dataplane.specs.declared.churn.ChurnState.{ChurnState}
use Rattle.dataplane.specs.declared.churn.ChurnState.TheVariants.{Monitor, NoChurn, Churn}

-- Churn_Detection_Time in ticks: 60 s (6.4.4)
abbrev pub churn_detection_ticks : ℕ
churn_detection_ticks = 600

-- BEGIN: CHURN_MONITOR, and nothing was counted
abbrev pub at_begin : ChurnMachine
at_begin = record { state = Monitor; waited = 0; churns = 0; synchronizations = 0 }

-- port_enabled FALSE: to CHURN_MONITOR, where the timer starts
abbrev pub disabled : ChurnMachine → ChurnMachine
disabled m = record m { state = Monitor; waited = 0 }

-- Synchronization TRUE: to NO_CHURN
abbrev pub in_sync : ChurnState → ChurnMachine → ChurnMachine
in_sync Monitor m = record m { state = NoChurn; waited = 0; synchronizations = counted m.synchronizations 1 }
in_sync NoChurn m = m
in_sync Churn m = record m { state = NoChurn; waited = 0; synchronizations = counted m.synchronizations 1 }

-- CHURN_MONITOR, whose timer has run for so many ticks; where it expires: to CHURN
abbrev pub monitoring : ℕ → ChurnMachine → ChurnMachine
monitoring ticks m =
    if nat_lt ticks churn_detection_ticks then record m { state = Monitor; waited = ticks }
    else record m { state = Churn; waited = 0; churns = counted m.churns 1 }

-- Synchronization FALSE. NO_CHURN: to CHURN_MONITOR, and this tick is the first one of the timer; CHURN stays
abbrev pub out_of_sync : ChurnState → ChurnMachine → ChurnMachine
out_of_sync Monitor m = monitoring (m.waited + 1) m
out_of_sync NoChurn m = monitoring 1 m
out_of_sync Churn m = m

-- the row of a tick, by port_enabled and by the Synchronization bit of the Oper_Port_State
abbrev pub churn_row : Bool → Bool → ChurnMachine → ChurnMachine
churn_row enabled sync m =
    if not enabled then disabled m
    else if sync then in_sync m.state m
    else out_of_sync m.state m
