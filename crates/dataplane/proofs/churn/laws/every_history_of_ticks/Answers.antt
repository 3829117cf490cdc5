use Rattle.dataplane.proofs.ChurnTicks.{churns, state}
use Rattle.dataplane.proofs.churn.laws.every_history_of_ticks.Goals as goal

pub returns-clause-state : goal.returns-clause-state
returns-clause-state c = state

pub returns-clause-churns : goal.returns-clause-churns
returns-clause-churns c = churns
