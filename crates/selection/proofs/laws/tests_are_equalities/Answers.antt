use Rattle.selection.proofs.Equal.{group-test, system-test}
use Rattle.selection.proofs.laws.tests_are_equalities.Goals as goal

pub returns-clause-group : goal.returns-clause-group
returns-clause-group c = group-test

pub returns-clause-system : goal.returns-clause-system
returns-clause-system c = system-test
