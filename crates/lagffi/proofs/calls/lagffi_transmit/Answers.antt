use Rattle.lagffi.proofs.AskingLemmas.{called_with_notes}
use Rattle.lagffi.proofs.calls.lagffi_transmit.Goals as goal

pub returns-clause-answers : goal.returns-clause-answers
returns-clause-answers c fits = called_with_notes _ _ c.in-Some.ensures.taken c.kept_mut.ensures.value c.put.ensures
    (c.transmit-answer.result, c.transmit-answer.ensures.answers, c.after_transmit.ensures, c.of.ensures, c.write_due.ensures)
