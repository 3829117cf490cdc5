use Rattle.lagffi.proofs.AskingLemmas.{called_with_notes}
use Rattle.lagffi.proofs.calls.lagffi_set_link.Goals as goal

pub returns : goal.returns
returns c = called_with_notes _ _ c.in-Some.ensures.taken c.kept_mut.ensures.value c.put.ensures
    (c.set_link-answer.result, c.set_link-answer.ensures.answers, c.after_set_link.ensures, c.status.ensures)
