use Rattle.lagsystem.proofs.Common.{ap, get_or, refl, sym, ◌∙◌, ◌≡◌, get_or-replicate, Selected, SystemPort}
use Rattle.lagsystem.proofs.MemberCounts.{counted_below, counted_more, none_more, no_member}
use Rattle.lagsystem.proofs.promoting.member_counts.Goals.{in-Selected, in_default}
use Rattle.lagsystem.proofs.promoting.member_counts.Goals as goal

pub loop-system_port-init : goal.loop-system_port-init
loop-system_port-init c = record { many = refl; each = λ agg low. get_or-replicate 65 agg.0 0 0 low }

pub loop-system_port-preserved : goal.loop-system_port-preserved
loop-system_port-preserved c = let i = c.loop-system_port.invariant in
    let l = c.args.system_ports.now in
    let k = c.loop-system_port.system_port-index in
    let d = c.system_port-item.result in
    let seen : c.choice.result ≡ (get_or l k d).port.choice = c.choice.ensures ∙ ap (λ (s : SystemPort). s.port.choice) c.system_port-item.is in
    elim c.match-choice.branch [
      | in-Selected w ↦ rw w.counts-is (counted_more l k d (Selected w.in-Selected.agg) _ _ c.loop-system_port-test.true i w.add.array_long
          (sym w.in-Selected.is ∙ seen) (λ agg low. w.add.ensures agg.0 low))
      | in_default w ↦ rw w.counts-is (counted_more l k d c.choice.result _ _ c.loop-system_port-test.true i i.many seen
          (λ agg low. none_more _ _ (no_member agg c.choice.result w.in_default.not-Selected)))
    ]

pub add-requires : goal.add-requires
add-requires c = record {
  few = counted_below c.args.system_ports.now c.loop-system_port.system_port-index _ c.loop-system_port-test.true c.requires
      c.loop-system_port.invariant;
}
