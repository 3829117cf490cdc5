use Rattle.std.proofs.Common.{rules}
use Rattle.tests_parts.proofs.of_portmachines.values_of_the_window.Goals as goal

pub returns-clause-kept : goal.returns-clause-kept
returns-clause-kept c = λ keeps. search (rules, keeps 0)
