-- What a churn detection machine is after ticks (6.4.17). A list of ticks has the latest first.
use Rattle.std.specs.Prelude.{ℕ, ◌+◌, Bool, false, not, nat_lt, ◌==◌, ◌&&◌, List, [], ◌∷◌, if◌then◌else◌}
use Rattle.dataplane.specs.Churn.{at_begin, churn_row}
use Rattle.dataplane.specs.declared.churn.ChurnMachine.{ChurnMachine}
use Rattle.dataplane.specs.declared.churn.ChurnState.{ChurnState}
use Rattle.dataplane.specs.declared.churn.ChurnState.TheVariants.{Monitor, NoChurn, Churn}

-- what a tick finds: port_enabled, and Synchronization of an end
pub record Found : Type 0 where
  pub enabled : Bool
  pub synchronized : Bool

-- the machine after these ticks, from BEGIN on
abbrev pub machine_after : List Found → ChurnMachine
machine_after [] = at_begin
machine_after (f ∷ earlier) = churn_row f.enabled f.synchronized (machine_after earlier)

-- the latest tick found the port up, and the end in sync
abbrev pub is_in_sync : List Found → Bool
is_in_sync [] = false
is_in_sync (f ∷ earlier) = f.enabled && f.synchronized

-- how many of the latest ticks in a row found the port up, and the end out of sync
abbrev pub ticks_out_of_sync : List Found → ℕ
ticks_out_of_sync [] = 0
ticks_out_of_sync (f ∷ earlier) = if f.enabled && not f.synchronized then ticks_out_of_sync earlier + 1 else 0

-- in sync: NO_CHURN; out of sync for 60 s: CHURN; else CHURN_MONITOR
abbrev pub state_told : List Found → ChurnState
state_told ticks =
    if is_in_sync ticks then NoChurn
    else if nat_lt (ticks_out_of_sync ticks) 600 then Monitor
    else Churn

-- how often 60 s out of sync became full
abbrev pub times_churned : List Found → ℕ
times_churned [] = 0
times_churned (f ∷ earlier) = if ticks_out_of_sync (f ∷ earlier) == 600 then times_churned earlier + 1 else times_churned earlier
