use Rattle.dataplane.proofs.Extremes.{alike}
use Rattle.dataplane.proofs.Loads.{lowers}
use Rattle.dataplane.proofs.SettlingLoads.{ends}
use Rattle.dataplane.proofs.balance.laws.every_run_of_moves.Goals as goal

pub returns-clause-lowers : goal.returns-clause-lowers
returns-clause-lowers c = lowers

pub returns-clause-ends : goal.returns-clause-ends
returns-clause-ends c = ends

pub returns-clause-alike : goal.returns-clause-alike
returns-clause-alike c = alike
