use Rattle.portmachines.proofs.Common.{length, take, ◌≡◌, ◌≤◌, aged}
use Rattle.portmachines.proofs.transmit.age_window.Given as goal

abbrev pub invariant-loop-age : goal.invariant-loop-age
invariant-loop-age l = record { so_far : l.kept.items ≡ aged (take l.age-index l.age-items); few : length l.kept.items ≤ l.age-index }
