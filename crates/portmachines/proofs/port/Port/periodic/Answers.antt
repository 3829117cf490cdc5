use Rattle.portmachines.proofs.Rest.{rest_after_periodic}
use Rattle.portmachines.proofs.port.Port.periodic.Goals as goal

pub invariant_of-self : goal.invariant_of-self
invariant_of-self c = rest_after_periodic _ _ c.run_periodic.ensures c.self.invariant
