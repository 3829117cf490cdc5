use Rattle.portmachines.proofs.OneRow.{one-mux, one-periodic, one-receive}
use Rattle.portmachines.proofs.port.one_row_is_enabled_at_most.Goals as goal

pub returns-clause-mux : goal.returns-clause-mux
returns-clause-mux c = one-mux

pub returns-clause-periodic : goal.returns-clause-periodic
returns-clause-periodic c = one-periodic

pub returns-clause-receive : goal.returns-clause-receive
returns-clause-receive c = one-receive
