use Rattle.dataplane.proofs.Common.{[], get_or, ℕ, ◌<◌, ◌≡◌, queue}
use Rattle.dataplane.proofs.holding.queues.Holding.first_released.Given as goal

abbrev pub invariant-loop-place : goal.invariant-loop-place
invariant-loop-place g l = (k : ℕ) → k < l.place → 0 < get_or l.ports k 0 → queue l.self k ≡ []
