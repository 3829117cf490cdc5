use Rattle.lagsystem.proofs.Common.{ap, arith, drop, length, length-drop, take, take_all, ◌-◌, ◌∙◌, ◌≡◌, list_any, may_choose}
use Rattle.lagsystem.proofs.Choosing.{selected_chooses_none}
use Rattle.lagsystem.proofs.FrontLemmas.{any_from, first_within}
use Rattle.lagsystem.proofs.settling.any_may_choose_from.Goals as goal

pub slice_bounds-rest-end : goal.slice_bounds-rest-end
slice_bounds-rest-end c = omega (arith, first_within c.args.system_ports.now c.args.first c.requires)

pub slice_bounds-rest-count : goal.slice_bounds-rest-count
slice_bounds-rest-count c = omega (arith, first_within c.args.system_ports.now c.args.first c.requires)

pub slice_bounds-rest-start : goal.slice_bounds-rest-start
slice_bounds-rest-start c = omega (arith, first_within c.args.system_ports.now c.args.first c.requires)

pub offset_bounds-system_ports-first : goal.offset_bounds-system_ports-first
offset_bounds-system_ports-first c = omega (arith, first_within c.args.system_ports.now c.args.first c.requires)

pub returns : goal.returns
returns c = let l = c.args.system_ports.now in
    let i = c.args.first in
    let whole : take (length l - i) (drop i l) ≡ drop i l = take_all (length l - i) (drop i l) (omega (arith, length-drop i l)) in
    c.any_may_choose.ensures ∙ ap (list_any (λ s. may_choose s)) whole
    ∙ any_from (λ s. may_choose s) selected_chooses_none l i c.requires
