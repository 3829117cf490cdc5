use Rattle.portmachines.proofs.Common.{ℕ, periodic_rows, FiresTimes, periodic_rows_to_fire}
use Rattle.portmachines.proofs.machines.Machines.run_periodic.Given as goal

-- so many rows fired
abbrev pub invariant-loop : goal.invariant-loop
invariant-loop l = (n : ℕ) × FiresTimes periodic_rows n l.initial.self l.self

abbrev pub decreases-loop : goal.decreases-loop
decreases-loop l = periodic_rows_to_fire l.self
