use Rattle.lagworld.proofs.Common.{ap, refl, sym, ◌∙◌, are_empty_lines, first_links}
use Rattle.lagworld.proofs.Making.{both_accepted, made_start, same_test}
use Rattle.lagworld.proofs.inner.Inner.new.Goals as goal

pub new-requires-clause-accepted : goal.new-requires-clause-accepted
new-requires-clause-accepted g c =
    (both_accepted c.args.config c.in-Some-both.systems.0 c.in-Some-both.systems.1 c.in-Some-both.ensures
    (sym c.refusal.ensures ∙ c.in_default.is)).0

pub new-requires-2-clause-accepted : goal.new-requires-2-clause-accepted
new-requires-2-clause-accepted g c =
    (both_accepted c.args.config c.in-Some-both.systems.0 c.in-Some-both.systems.1 c.in-Some-both.ensures
    (sym c.refusal.ensures ∙ c.in_default.is)).1

pub returns-clause-start : goal.returns-clause-start
returns-clause-start g c = let items = g.C.Cable.items in
    let limit = g.C.Cable.limit in
    let config = c.args.config in
    let lines = c.args.lines.items in
    made_start items limit config c.in-Some-both.systems.0 c.in-Some-both.systems.1 lines _ c.in-Some-both.ensures
    (sym c.refusal.ensures ∙ c.in_default.is)
    (same_test (are_empty_lines items) config.cables.items c.deref.result.now lines c.deref-2.result.now c.are_empty_lines.result
    c.deref.ensures.value c.deref-2.ensures.value c.are_empty_lines.ensures c.if-not-are_empty_lines.false)
    c.in_ok-one.ensures.first c.in_ok-two.ensures.first c.in_ok-one.ensures.agrees c.in_ok-two.ensures.agrees
    (c.in_ok-links.ensures ∙ ap (λ cables. first_links items limit cables lines) c.deref-3.ensures.value) refl
