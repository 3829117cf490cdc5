use Rattle.std.proofs.Common.{◌≡◌}
use Rattle.tests_system.proofs.systems.play.Given as goal

abbrev pub invariant-loop-place : goal.invariant-loop-place
invariant-loop-place g l = l.system.algorithm ≡ l.initial.system.algorithm
