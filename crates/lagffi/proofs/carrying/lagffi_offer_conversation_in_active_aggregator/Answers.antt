use Rattle.lagffi.proofs.AskingLemmas.{offered}
use Rattle.lagffi.proofs.carrying.lagffi_offer_conversation_in_active_aggregator.Goals as goal

pub returns : goal.returns
returns c = offered _ _ c.in-Some.ensures.taken c.kept.ensures c.put.ensures
    (c.offer_conversation_in_active_aggregator_with-answer.result.0, c.offer_conversation_in_active_aggregator_with-answer.ensures, c.of.ensures)
