use Rattle.distributor.proofs.Common.{None, length, replicate, take, ◌-◌, ◌≡◌, ◌≤◌, Free}
use Rattle.distributor.proofs.slots.copy_free.Given as goal

abbrev pub invariant-loop-at : goal.invariant-loop-at
invariant-loop-at l = (length l.states ≡ length l.initial.states) × (l.at ≤ length l.states) × (take l.at l.states ≡ replicate l.at (Free None))

abbrev pub decreases-loop-at : goal.decreases-loop-at
decreases-loop-at l = length l.states - l.at
