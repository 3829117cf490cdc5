use Rattle.lagsystem.proofs.Common.{ap, arith, drop, length, length-drop, sym, take, take_all, ◌-◌, ◌∙◌, ◌≡◌, OnFalse_from, list_any, is_standby}
use Rattle.lagsystem.proofs.FrontLemmas.{any_from, first_within}
use Rattle.lagsystem.proofs.NextLemmas.{none_stands, selected_not_standby}
use Rattle.lagsystem.proofs.promoting.may_promote.Goals as goal

pub slice_bounds-rest-end : goal.slice_bounds-rest-end
slice_bounds-rest-end c = omega (arith, first_within c.args.system_ports.now c.args.first c.requires.first)

pub slice_bounds-rest-count : goal.slice_bounds-rest-count
slice_bounds-rest-count c = omega (arith, first_within c.args.system_ports.now c.args.first c.requires.first)

pub slice_bounds-rest-start : goal.slice_bounds-rest-start
slice_bounds-rest-start c = omega (arith, first_within c.args.system_ports.now c.args.first c.requires.first)

pub offset_bounds-system_ports-first : goal.offset_bounds-system_ports-first
offset_bounds-system_ports-first c = omega (arith, first_within c.args.system_ports.now c.args.first c.requires.first)

pub returns-else-any_standby : goal.returns-else-any_standby
returns-else-any_standby c = let l = c.args.system_ports.now in
    let i = c.args.first in
    let whole : take (length l - i) (drop i l) ≡ drop i l = take_all (length l - i) (drop i l) (omega (arith, length-drop i l)) in
    let found = c.any_standby.ensures ∙ ap (list_any (λ s. is_standby s.port.choice)) whole
    ∙ any_from (λ s. is_standby s.port.choice) (λ s. selected_not_standby s.port.choice) l i c.requires.first in
    OnFalse_from c.any_standby.result _ (λ e agg. none_stands c.args.aggregators.now l (sym found ∙ e) agg)
