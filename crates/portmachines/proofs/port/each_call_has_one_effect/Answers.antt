use Rattle.portmachines.proofs.Choices.{one_effect}
use Rattle.portmachines.proofs.port.each_call_has_one_effect.Goals as goal

pub returns : goal.returns
returns c = one_effect
