use Rattle.lagffi.proofs.AskingLemmas.{called_with_notes}
use Rattle.lagffi.proofs.probing.lagffi_probe.Goals as goal

pub returns-clause-answers : goal.returns-clause-answers
returns-clause-answers c fits = called_with_notes _ _ c.in-Some.ensures.taken c.kept_mut.ensures.value c.put.ensures
    (c.probe-answer.result, c.probe-answer.ensures.probes, c.probe-answer.ensures.lawful, c.after_transmit.ensures, c.of.ensures, c.write_due.ensures)
