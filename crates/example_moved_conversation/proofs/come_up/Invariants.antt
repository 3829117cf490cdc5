-- The loop's invariant: both systems keep their algorithms.
use Rattle.std.proofs.Common.{◌≡◌}
use Rattle.example_moved_conversation.proofs.come_up.Given as goal

abbrev pub invariant-loop-ticks : goal.invariant-loop-ticks
invariant-loop-ticks g l = (l.one.algorithm ≡ l.fn.one.algorithm) × (l.two.algorithm ≡ l.fn.two.algorithm)
