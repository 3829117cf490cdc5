use Rattle.lagsystem.proofs.Common.{List, [], ap, subst, sym, ℕ, ◌∙◌, ◌≡◌, OnFalse, IsStrictlyIncreasing, SystemPort, inner_state, has_aggregator}
use Rattle.lagsystem.proofs.Common.{distributing, SystemValue}
use Rattle.lagsystem.proofs.Distributing.{distributing_rise, none_distribute}
use Rattle.lagsystem.proofs.calls.System.distributing.Goals as goal

pub returns-clause-ascending : goal.returns-clause-ascending
returns-clause-ascending g c = let s = inner_state c.self.inside.inner in
    let agg = c.args.agg in
    let same : c.distributing.result.items ≡ distributing agg s.system_ports = c.distributing.ensures
    ∙ ap (λ (l : List SystemPort). distributing agg l) c.deref.ensures.value in
    subst (λ (l : List ℕ). IsStrictlyIncreasing l) (sym same) (distributing_rise agg s c.self.invariant.ports)

pub returns-clause-unknown : goal.returns-clause-unknown
returns-clause-unknown g c = let s = inner_state c.self.inside.inner in
    let agg = c.args.agg in
    let same : c.distributing.result.items ≡ distributing agg s.system_ports = c.distributing.ensures
    ∙ ap (λ (l : List SystemPort). distributing agg l) c.deref.ensures.value in
    subst (λ (w : SystemValue g.row.F.Denot). OnFalse (has_aggregator w.state agg) (c.distributing.result.items ≡ [])) c.self.view_is
    (subst (λ (l : List ℕ). OnFalse (has_aggregator s agg) (l ≡ [])) (sym same) (none_distribute agg s c.self.invariant))
