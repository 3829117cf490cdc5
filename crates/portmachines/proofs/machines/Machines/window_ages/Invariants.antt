use Rattle.portmachines.proofs.Common.{length, take, ◌≡◌, ◌≤◌}
use Rattle.portmachines.proofs.machines.Machines.window_ages.Given as goal

abbrev pub invariant-loop-age : goal.invariant-loop-age
invariant-loop-age l = record { so_far : l.ages.items ≡ take l.age-index l.age-items; few : length l.ages.items ≤ l.age-index }
