use Rattle.dataplane.proofs.Common.{IfOk, false, subst, ◌∙◌, ◌≡◌, AllByRecursion, IfErr, IsFirstWithout, IsNotWarmed, IsResumed, IsWarmed, MayRefuse}
use Rattle.dataplane.proofs.Common.{is_stale, warm_calls}
use Rattle.dataplane.proofs.WarmTables.{if_err, if_ok, refused_by, resumed_by}
use Rattle.dataplane.proofs.resuming.resume.Goals as goal

pub returns-in-Some-clause-refused : goal.returns-in-Some-clause-refused
returns-in-Some-clause-refused g c =
    subst (λ ports. IsFirstWithout (λ x. is_stale ports x ≡ false) c.args.saved.now c.in-Some.port) c.deref.ensures.value c.in-Some.ensures

pub returns-clause-resumed : goal.returns-clause-resumed
returns-clause-resumed g c = let config = c.args.config in
    let saved = c.args.saved.now in
    let first = c.in_ok-system.system.state in
    let keys = c.deref-4.result.now in
    let ports = c.deref-5.result.now in
    let k = c.deref-4.ensures.value ∙ c.in-Ok.ensures.items ∙ c.deref-2.ensures.value in
    let p = c.deref-5.ensures.value ∙ c.in-Ok-from_slice.ensures.items ∙ c.deref-3.ensures.value in
    let fresh = subst (λ ps. AllByRecursion (λ x. is_stale ps x ≡ false) saved) c.deref.ensures.value c.in_default.ensures in
    if_ok (λ s. IsWarmed (λ conv count place. g.F.Fn.post c.args.algorithm (conv, (count, tt)) place) first (warm_calls keys ports saved) config.system ports saved s.state)
    (λ s. IsResumed (λ conv count place. g.F.Fn.post c.args.algorithm (conv, (count, tt)) place) config saved s.state) c.warmed.result
    (λ s. resumed_by (λ conv count place. g.F.Fn.post c.args.algorithm (conv, (count, tt)) place) config saved first keys ports k p fresh
    c.in_ok-system.ensures.first c.in_ok-system.ensures.configured s.state)
    (subst (λ f. IfOk c.warmed.result (λ s. IsWarmed (λ conv count place. g.F.Fn.post f (conv, (count, tt)) place) first
    (warm_calls keys ports saved) config.system ports saved s.state)) c.in_ok-system.ensures.algorithm c.warmed.ensures.warmed)

pub returns-clause-refused : goal.returns-clause-refused
returns-clause-refused g c = let config = c.args.config in
    let saved = c.args.saved.now in
    let first = c.in_ok-system.system.state in
    let keys = c.deref-4.result.now in
    let ports = c.deref-5.result.now in
    let k = c.deref-4.ensures.value ∙ c.in-Ok.ensures.items ∙ c.deref-2.ensures.value in
    let p = c.deref-5.ensures.value ∙ c.in-Ok-from_slice.ensures.items ∙ c.deref-3.ensures.value in
    let fresh = subst (λ ps. AllByRecursion (λ x. is_stale ps x ≡ false) saved) c.deref.ensures.value c.in_default.ensures in
    if_err (IsNotWarmed (λ conv count place. g.F.Fn.post c.args.algorithm (conv, (count, tt)) place) first (warm_calls keys ports saved) config.system ports saved)
    (MayRefuse (λ conv count place. g.F.Fn.post c.args.algorithm (conv, (count, tt)) place) config saved) c.warmed.result
    (refused_by (λ conv count place. g.F.Fn.post c.args.algorithm (conv, (count, tt)) place) config saved first keys ports k p fresh
    c.in_ok-system.ensures.first c.in_ok-system.ensures.configured)
    (subst (λ f. IfErr c.warmed.result (IsNotWarmed (λ conv count place. g.F.Fn.post f (conv, (count, tt)) place) first
    (warm_calls keys ports saved) config.system ports saved)) c.in_ok-system.ensures.algorithm c.warmed.ensures.refused)
