use Rattle.portmachines.proofs.Common.{ℕ, receive_rows, FiresTimes, receive_rows_to_fire}
use Rattle.portmachines.proofs.machines.Machines.run_receive.Given as goal

-- so many rows fired
abbrev pub invariant-loop : goal.invariant-loop
invariant-loop l = (n : ℕ) × FiresTimes receive_rows n l.initial.self l.self

abbrev pub decreases-loop : goal.decreases-loop
decreases-loop l = receive_rows_to_fire l.self
