use Rattle.portmachines.proofs.Rest.{rest_after_mux}
use Rattle.portmachines.proofs.port.Port.mux.Goals as goal

pub invariant_of-self : goal.invariant_of-self
invariant_of-self c = rest_after_mux _ _ _ _ c.fire_mux_rows.ensures.fired c.self.invariant
