use Rattle.portmachines.proofs.Windows.{window_law}
use Rattle.portmachines.proofs.transmit.window_holds.Goals as goal

pub returns : goal.returns
returns c = window_law
