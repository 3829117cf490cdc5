use Rattle.lagffi.proofs.AskingLemmas.{called}
use Rattle.lagffi.proofs.calls.lagffi_move_conversation.Goals as goal

pub returns : goal.returns
returns c = called _ _ c.in-Some.ensures.taken c.put.ensures
    (c.move_conversation-answer.result, c.move_conversation-answer.ensures.answers, c.status.ensures)
