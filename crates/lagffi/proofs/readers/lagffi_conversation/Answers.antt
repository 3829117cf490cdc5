use Rattle.lagffi.proofs.Common.{ap, subst, ◌∙◌, ◌<◌, IfSome, conversation_count, number_or_refused}
use Rattle.lagffi.proofs.AskingLemmas.{asked}
use Rattle.lagffi.proofs.readers.lagffi_conversation.Goals as goal

pub returns : goal.returns
returns c = asked _ _ c.in-Some.ensures.taken c.put.ensures (
  c.or-answer.ensures ∙ ap (number_or_refused 3) c.conversation.ensures.is,
  subst (λ o. IfSome o (λ conv. conv < conversation_count c.in-Some.system.state)) c.conversation.ensures.is
      c.conversation.ensures.within,
)
