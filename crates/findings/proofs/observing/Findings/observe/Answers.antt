use Rattle.std.proofs.Common.{◌≡◌, ◌<◌, ◌∷◌, ◌∙◌, ◌++◌, [], List, true, false, length, sym, ap, subst}
use Rattle.std.specs.List.{AllZip}
use Rattle.findings.specs.declared.slow_frame.LinkEnd.{LinkEnd}
use Rattle.findings.specs.declared.kept_end.KeptEnd.{KeptEnd}
use Rattle.findings.specs.Ends.{end_of}
use Rattle.findings.specs.KeptEnds.{kept_end}
use Rattle.findings.specs.Knows.{Knows, Takes, has_end}
use Rattle.findings.proofs.EndLemmas.{below, exact_number}
use Rattle.findings.proofs.KnowsLemmas.{known_end, left_out, new_end, refill_same, same_length}
use Rattle.findings.proofs.observing.Findings.observe.Goals as goal

pub returns-then-has_end : goal.returns-then-has_end
returns-then-has_end c = let t : AllZip (Takes c.args.now.now) c.args.self.now.kept.items c.see_each.new.ends
    = subst (λ ws. AllZip (Takes c.args.now.now) ws c.see_each.new.ends) c.as_mut_slice.ensures.value c.see_each.ensures in
    let back = refill_same c.args.self.now.kept.items c.see_each.new.ends
    (same_length c.args.now.now c.args.self.now.kept.items c.see_each.new.ends t) in
    let known : has_end (end_of c.args.now.now) c.see_each.new.ends ≡ true
    = ap (λ (e : LinkEnd). has_end e c.see_each.new.ends) (sym c.end-end.ensures)
    ∙ (ap (λ (ws : List KeptEnd). has_end c.end-end.result ws) (sym (c.deref.ensures.0 ∙ back)) ∙ (sym c.has_end.ensures ∙ c.if-has_end.true)) in
    λ h k. subst (λ ws. Knows (c.args.now.now ∷ h) ws c.with-self.result c.args.self.now.left_out) (sym back)
    (known_end c.args.now.now h c.args.self.now.kept.items c.see_each.new.ends c.args.self.now.order c.with-self.result c.args.self.now.left_out t known c.with-self.ensures k)

pub returns-then-is_full : goal.returns-then-is_full
returns-then-is_full c = let t : AllZip (Takes c.args.now.now) c.args.self.now.kept.items c.see_each.new.ends
    = subst (λ ws. AllZip (Takes c.args.now.now) ws c.see_each.new.ends) c.as_mut_slice.ensures.value c.see_each.ensures in
    let back = refill_same c.args.self.now.kept.items c.see_each.new.ends
    (same_length c.args.now.now c.args.self.now.kept.items c.see_each.new.ends t) in
    let unknown : has_end (end_of c.args.now.now) c.see_each.new.ends ≡ false
    = ap (λ (e : LinkEnd). has_end e c.see_each.new.ends) (sym c.end-end.ensures)
    ∙ (ap (λ (ws : List KeptEnd). has_end c.end-end.result ws) (sym (c.deref.ensures.0 ∙ back)) ∙ (sym c.has_end.ensures ∙ c.if-has_end.false)) in
    let full : length c.see_each.new.ends ≡ 64 = sym (ap length back) ∙ exact_number _ _ (sym c.is_full.ensures.value ∙ c.if-is_full.true) in
    λ h k. subst (λ ws. Knows (c.args.now.now ∷ h) ws c.with-self.result c.saturating_add-self.result) (sym back)
    (left_out c.args.now.now h c.args.self.now.kept.items c.see_each.new.ends c.args.self.now.order c.with-self.result c.args.self.now.left_out c.saturating_add-self.result t unknown full
    c.saturating_add-self.ensures c.with-self.ensures k)

pub returns : goal.returns
returns c = let t : AllZip (Takes c.args.now.now) c.args.self.now.kept.items c.see_each.new.ends
    = subst (λ ws. AllZip (Takes c.args.now.now) ws c.see_each.new.ends) c.as_mut_slice.ensures.value c.see_each.ensures in
    let back = refill_same c.args.self.now.kept.items c.see_each.new.ends
    (same_length c.args.now.now c.args.self.now.kept.items c.see_each.new.ends t) in
    let unknown : has_end (end_of c.args.now.now) c.see_each.new.ends ≡ false
    = ap (λ (e : LinkEnd). has_end e c.see_each.new.ends) (sym c.end-end.ensures)
    ∙ (ap (λ (ws : List KeptEnd). has_end c.end-end.result ws) (sym (c.deref.ensures.0 ∙ back)) ∙ (sym c.has_end.ensures ∙ c.if-has_end.false)) in
    let room : length c.see_each.new.ends < 64
    = subst (λ n. n < 64) (ap length back) (below _ _ (sym c.is_full.ensures.value ∙ c.if-is_full.false) c.is_full.ensures.fits) in
    let first : Takes c.args.now.now (kept_end (end_of c.args.now.now) []) c.see.new.self
    = subst (λ w. Takes c.args.now.now w c.see.new.self) (c.new-kept.ensures ∙ ap (λ (e : LinkEnd). kept_end e []) c.end-end.ensures) c.see.ensures in
    λ h k. subst (λ ws. Knows (c.args.now.now ∷ h) ws c.with-self.result c.args.self.now.left_out) (sym (c.push.ensures.items ∙ ap (λ ws. ws ++ c.see.new.self ∷ []) back))
    (new_end c.args.now.now h c.args.self.now.kept.items c.see_each.new.ends c.args.self.now.order c.with-self.result c.see.new.self c.args.self.now.left_out t unknown room first c.with-self.ensures k)
