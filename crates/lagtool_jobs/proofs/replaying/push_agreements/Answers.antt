use Rattle.lagtool_jobs.proofs.Common.{Some, ap, rules, string_bytes, sym, ◌++◌, ◌+◌, ◌∙◌, ◌≡◌, agreement_line}
use Rattle.lagtool_jobs.proofs.ReplayLemmas.{cable_more, cables_all, cables_end}
use Rattle.lagtool_jobs.proofs.replaying.push_agreements.Goals as goal

pub returns-in-None : goal.returns-in-None
returns-in-None g c = c.loop-place.invariant
    ∙ ap (λ t. string_bytes c.args.text.now ++ t) (cables_end c.args.world.now.state c.loop-place.place c.loop-place-test.true
    (sym c.in-None.ensures.exact))

pub loop-place-preserved : goal.loop-place-preserved
loop-place-preserved g c = let said : string_bytes c.push_agreement.new.text ≡ string_bytes c.loop-place.text
    ++ agreement_line (c.loop-place.place + 1) (Some c.in-Some.agreement) = search rules in
    cable_more _ _ _ c.args.world.now.state c.loop-place.place c.in-Some.agreement c.loop-place.invariant c.in-Some.ensures.exact said

pub returns : goal.returns
returns g c = c.loop-place.invariant
    ∙ ap (λ t. string_bytes c.args.text.now ++ t)
    (cables_all c.args.world.now.state c.loop-place.place c.loop-place.auto.place-end c.loop-place-test.false)
