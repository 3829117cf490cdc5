use Rattle.lagffi.proofs.Common.{ap, ◌∙◌, due_on, mask, number}
use Rattle.lagffi.proofs.AskingLemmas.{asked}
use Rattle.lagffi.proofs.masks.lagffi_due.Goals as goal

pub returns : goal.returns
returns c = asked _ _ c.in-Some.ensures.taken c.put.ensures
    (c.answered.ensures ∙ ap number (c.mask.ensures ∙ ap mask (c.deref-2.ensures.0 ∙ c.due_on-due.ensures
    ∙ ap (due_on c.in-Some.system.state) (c.deref.ensures.0 ∙ c.ports.ensures.all))))
