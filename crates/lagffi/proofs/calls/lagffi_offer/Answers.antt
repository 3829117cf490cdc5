use Rattle.lagffi.proofs.AskingLemmas.{offered}
use Rattle.lagffi.proofs.calls.lagffi_offer.Goals as goal

pub returns : goal.returns
returns c = offered _ _ c.in-Some.ensures.taken c.kept.ensures c.put.ensures
    (c.offer_with-answer.result.0, c.offer_with-answer.ensures.answers, c.offer_with-answer.ensures.within, c.of.ensures)
