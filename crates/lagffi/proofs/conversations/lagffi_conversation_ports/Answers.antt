use Rattle.lagffi.proofs.AskingLemmas.{asked}
use Rattle.lagffi.proofs.conversations.lagffi_conversation_ports.Goals as goal

pub returns : goal.returns
returns c = asked _ _ c.in-Some.ensures.taken c.put.ensures c.tell_ports-answer.ensures
