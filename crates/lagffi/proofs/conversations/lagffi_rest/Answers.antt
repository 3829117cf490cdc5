use Rattle.lagffi.proofs.AskingLemmas.{called}
use Rattle.lagffi.proofs.conversations.lagffi_rest.Goals as goal

pub returns : goal.returns
returns c = called _ _ c.in-Some.ensures.taken c.put.ensures
    (c.rest-answer.result, c.rest-answer.ensures.gives, c.rest-answer.ensures.forces, c.status.ensures)
