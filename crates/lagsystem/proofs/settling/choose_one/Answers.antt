use Rattle.lagsystem.proofs.Common.{List, None, Some, ap, get_or, slice_set, sym, ◌∙◌, slice_get-get_or, Choice, Machines, PortView}
use Rattle.lagsystem.proofs.Common.{chosen_aggregator, choice_in, with_choice, views}
use Rattle.lagsystem.proofs.Choosing.{seen_taken}
use Rattle.lagsystem.proofs.SettlingLemmas.{none_taken, one_taken}
use Rattle.lagsystem.proofs.settling.choose_one.Goals as goal

pub returns-then-not-may_choose-clause-chosen : goal.returns-then-not-may_choose-clause-chosen
returns-then-not-may_choose-clause-chosen c = let system_ports = c.args.system_ports.now in
    let i = c.args.place in
    let d = c.index-system_ports-place.result in
    none_taken c.args.aggregators.now system_ports i (get_or system_ports i d) (slice_get-get_or system_ports i d c.requires.within)
    (sym c.may_choose.ensures ∙ c.if-not-may_choose.true)

pub returns-in-Some-clause-chosen : goal.returns-in-Some-clause-chosen
returns-in-Some-clause-chosen c = let system_ports = c.args.system_ports.now in
    let i = c.args.place in
    let d = c.index-system_ports-place.result in
    let t = get_or system_ports i c.index-system_ports-place-2.result in
    let aggs = c.args.aggregators.now in
    ap (λ (p : Machines). slice_set system_ports i (record t { port = p })) c.select.ensures
    ∙ ap (λ (choice : Choice). slice_set system_ports i (with_choice t (Some choice)))
    (c.choice_in-choice.ensures ∙ ap (λ (l : List PortView). choice_in aggs l c.in-Some.agg) c.requires.port_views)
    ∙ one_taken aggs system_ports i (get_or system_ports i d) t (Some c.in-Some.agg)
    (slice_get-get_or system_ports i d c.requires.within)
    (slice_get-get_or system_ports i c.index-system_ports-place-2.result c.requires.within)
    (sym c.may_choose.ensures ∙ c.if-not-may_choose.false)
    (sym c.in-Some.is ∙ c.choose.ensures.exact
    ∙ ap (λ (l : List PortView). chosen_aggregator c.args.aggregators.now.keys l t.number) c.requires.port_views)

pub returns-in-Some-clause-port_views : goal.returns-in-Some-clause-port_views
returns-in-Some-clause-port_views c = let system_ports = c.args.system_ports.now in
    let i = c.args.place in
    let t = get_or system_ports i c.index-system_ports-place-2.result in
    seen_taken c.args.port_views.now system_ports i _ c.index-system_ports-place-2.result c.choice_in-choice.result
    c.requires.port_views c.requires.within
    ∙ ap (λ (p : Machines). views (slice_set system_ports i (record t { port = p }))) (sym c.select.ensures)

pub returns-in_default-clause-chosen : goal.returns-in_default-clause-chosen
returns-in_default-clause-chosen c = let system_ports = c.args.system_ports.now in
    let i = c.args.place in
    let d = c.index-system_ports-place.result in
    let t = get_or system_ports i c.index-system_ports-place-2.result in
    one_taken c.args.aggregators.now system_ports i (get_or system_ports i d) t None
    (slice_get-get_or system_ports i d c.requires.within)
    (slice_get-get_or system_ports i c.index-system_ports-place-2.result c.requires.within)
    (sym c.may_choose.ensures ∙ c.if-not-may_choose.false)
    (sym c.in_default.is ∙ c.choose.ensures.exact
    ∙ ap (λ (l : List PortView). chosen_aggregator c.args.aggregators.now.keys l t.number) c.requires.port_views)
