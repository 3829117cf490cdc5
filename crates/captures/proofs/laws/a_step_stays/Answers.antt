use Rattle.captures.proofs.StepLemmas.{step_refused, step_taken}
use Rattle.captures.proofs.laws.a_step_stays.Goals as goal

pub returns-clause-taken : goal.returns-clause-taken
returns-clause-taken c = step_taken

pub returns-clause-refused : goal.returns-clause-refused
returns-clause-refused c = step_refused
