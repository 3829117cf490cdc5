use Rattle.lagffi.proofs.AskingLemmas.{called_with_notes}
use Rattle.lagffi.proofs.calls.lagffi_receive.Goals as goal

pub returns-clause-answers : goal.returns-clause-answers
returns-clause-answers c fits = called_with_notes _ _ c.in-Some.ensures.taken c.kept_mut.ensures.value c.put.ensures
    (c.receive-answer.result, c.receive-answer.ensures.answers, c.after_receive.ensures, c.of.ensures, c.write_reply.ensures)
