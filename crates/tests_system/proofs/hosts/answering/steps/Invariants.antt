use Rattle.std.proofs.Common.{◌≡◌}
use Rattle.tests_system.proofs.hosts.answering.steps.Given as goal

abbrev pub invariant-loop-row : goal.invariant-loop-row
invariant-loop-row g l = l.system.algorithm ≡ l.initial.system.algorithm
