use Rattle.std.proofs.Common.{◌≡◌}
use Rattle.tests_parts.proofs.of_distributor.tick.Given as goal

abbrev pub invariant-loop : goal.invariant-loop
invariant-loop g l = l.d.algorithm ≡ l.initial.d.algorithm
