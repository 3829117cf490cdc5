use Rattle.lagscript.proofs.Common.{add-one, length, refl, sym, ◌∙◌, has_bad_end}
use Rattle.lagscript.proofs.ConfigLemmas.{first_below_found}
use Rattle.lagscript.proofs.config.bad_end.Goals as goal

pub returns-then-has_bad_end : goal.returns-then-has_bad_end
returns-then-has_bad_end c = let cables = c.args.cables.now in
    let i = c.loop-index.index in
    let found = first_below_found (has_bad_end c.args.first.now c.args.second.now cables) i (length cables) c.loop-index-test.true
    c.loop-index.invariant (sym c.has_bad_end.ensures ∙ c.if-has_bad_end.true) in
    rw (found, add-one) refl
