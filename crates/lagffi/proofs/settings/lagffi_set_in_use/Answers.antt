use Rattle.lagffi.proofs.AskingLemmas.{called}
use Rattle.lagffi.proofs.settings.lagffi_set_in_use.Goals as goal

pub returns : goal.returns
returns c = called _ _ c.in-Some.ensures.taken c.put.ensures
    (c.set_in_use-answer.result, c.set_in_use-answer.ensures.promise, c.status.ensures)
