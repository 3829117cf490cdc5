use Rattle.lagsystem.proofs.Common.{List, ap, arith, get_or, length, ◌<◌, ◌∙◌, ◌≡◌, sooner, SystemPort, inner_state, ticks_until_due}
use Rattle.lagsystem.proofs.Common.{ticks_until_due_on}
use Rattle.lagsystem.proofs.WaitingLemmas.{soonest_on}
use Rattle.lagsystem.proofs.inner.Inner.ticks_until_due.Goals as goal

pub loop-system_port-preserved : goal.loop-system_port-preserved
loop-system_port-preserved g c = let s = inner_state c.args.self.now in
    let same : c.deref-system_port-items.result.now ≡ s.system_ports = c.deref-system_port-items.ensures.value in
    let i = c.loop-system_port.system_port-index in
    let x = c.system_port-item.result in
    let lt : i < length s.system_ports = omega (arith, ap (λ (l : List SystemPort). length l) same) in
    let is : x ≡ get_or s.system_ports i x = c.system_port-item.is ∙ ap (λ (l : List SystemPort). get_or l i x) same in
    soonest_on (ticks_until_due_on s) s.system_ports i x c.loop-system_port.first c.sooner-first.result (ticks_until_due s) lt is
    (c.sooner-first.ensures ∙ ap (sooner c.loop-system_port.first) c.ticks_until_due_on.ensures) c.loop-system_port.invariant
