use Rattle.lagffi.proofs.AskingLemmas.{called}
use Rattle.lagffi.proofs.conversations.lagffi_adopt.Goals as goal

pub returns : goal.returns
returns c = called _ _ c.in-Some.ensures.taken c.put.ensures
    (c.adopt-answer.result, c.adopt-answer.ensures.gives, c.adopt-answer.ensures.offers, c.adopt-answer.ensures.same, c.status.ensures)
