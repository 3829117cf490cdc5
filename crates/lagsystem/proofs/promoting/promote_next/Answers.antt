use Rattle.lagsystem.proofs.Common.{List, Some, ap, get_or, refl, slice_set, sym, ◌+◌, ◌∙◌, ◌≡◌, slice_get-get_or, Selected, Machines, PortView}
use Rattle.lagsystem.proofs.Common.{next_standby_index, count_standby, with_choice, views}
use Rattle.lagsystem.proofs.Choosing.{seen_taken}
use Rattle.lagsystem.proofs.NextLemmas.{next_within, promoted_fewer}
use Rattle.lagsystem.proofs.promoting.promote_next.Goals as goal

pub returns-in-Some-clause-fewer : goal.returns-in-Some-clause-fewer
returns-in-Some-clause-fewer c = let l = c.args.system_ports.now in
    let aggs = c.args.aggregators.now in
    let agg = c.args.agg in
    let i = c.in-Some.place in
    let t = get_or l i c.index-system_ports-place.result in
    let next : next_standby_index aggs (views l) agg ≡ Some i =
    ap (λ (v : List PortView). next_standby_index aggs v agg) (sym c.requires) ∙ sym c.next_standby_index.ensures.exact ∙ c.in-Some.is in
    let there = slice_get-get_or l i c.index-system_ports-place.result (next_within aggs l agg i next) in
    ap (λ (p : Machines). count_standby agg (slice_set l i (record t { port = p })) + 1) c.select.ensures
    ∙ promoted_fewer aggs agg l (slice_set l i (with_choice t (Some (Selected agg)))) (i, t, next, there, refl)

pub returns-in-Some-clause-port_views : goal.returns-in-Some-clause-port_views
returns-in-Some-clause-port_views c = let l = c.args.system_ports.now in
    let aggs = c.args.aggregators.now in
    let agg = c.args.agg in
    let i = c.in-Some.place in
    let d = c.index-system_ports-place.result in
    let t = get_or l i d in
    let next : next_standby_index aggs (views l) agg ≡ Some i =
    ap (λ (v : List PortView). next_standby_index aggs v agg) (sym c.requires) ∙ sym c.next_standby_index.ensures.exact ∙ c.in-Some.is in
    seen_taken c.args.port_views.now l i _ d (Selected agg) c.requires (next_within aggs l agg i next)
    ∙ ap (λ (p : Machines). views (slice_set l i (record t { port = p }))) (sym c.select.ensures)
