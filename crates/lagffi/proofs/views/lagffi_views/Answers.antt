use Rattle.lagffi.proofs.Common.{ap, ◌∙◌, put_first, mask, number, changed, views_of}
use Rattle.lagffi.proofs.AskingLemmas.{asked}
use Rattle.lagffi.proofs.views.lagffi_views.Goals as goal

pub returns-clause-answers : goal.returns-clause-answers
returns-clause-answers c fits = let told = c.deref-2.ensures.0 ∙ c.views_of-now.ensures ∙ ap (views_of c.in-Some.system.state)
    (c.deref.ensures.0 ∙ c.ports.ensures.all) in
    asked _ _ c.in-Some.ensures.taken c.put.ensures (
      c.answered.ensures ∙ ap number (c.renew.ensures.mask ∙ ap (λ vs. mask (changed c.args.views.now vs)) told),
      c.renew.ensures.written ∙ ap (λ vs. put_first vs c.args.views.now) told,
    )
