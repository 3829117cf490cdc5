use Rattle.portmachines.proofs.Modes.{mode_expires_none}
use Rattle.portmachines.proofs.port.a_mode_expires_no_port.Goals as goal

pub returns : goal.returns
returns c = mode_expires_none
