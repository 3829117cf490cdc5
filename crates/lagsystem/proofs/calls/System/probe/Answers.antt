use Rattle.lagsystem.proofs.Common.{inner_state}
use Rattle.lagsystem.proofs.ProbingLemmas.{probes_lawfully, probes_sound}
use Rattle.lagsystem.proofs.calls.System.probe.Goals as goal

pub invariant_of-self : goal.invariant_of-self
invariant_of-self g c =
    probes_sound c.args.port (inner_state c.self.inside.inner) c.probe.result (inner_state c.probe.new.self) c.probe.ensures.probes
    c.self.invariant

pub returns-clause-probes : goal.returns-clause-probes
returns-clause-probes g c = rw (← c.self.view_is) c.probe.ensures.probes

pub returns-clause-lawful : goal.returns-clause-lawful
returns-clause-lawful g c = rw (← c.self.view_is) (probes_lawfully _ _ _ _ c.probe.ensures.probes c.self.invariant)
