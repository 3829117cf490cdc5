use Rattle.lagsystem.proofs.Common.{ap, subst, sym, ◌∙◌, ChangesAssignments, after_leave, SystemPort, has_stopped}
use Rattle.lagsystem.proofs.HoldingLemmas.{one_left, one_stays}
use Rattle.lagsystem.proofs.holding.hold_conversations_at.Goals as goal

pub returns-then-has_stopped-clause-changed : goal.returns-then-has_stopped-clause-changed
returns-then-has_stopped-clause-changed g c = let system_ports = c.args.system_ports.now in
    let s = c.index-system_ports-place.result in
    let t = c.args.distributor.now.table in
    let new = c.leave.new.self.table in
    one_left system_ports c.args.place c.args.was s t new c.requires
    (ap (has_stopped c.args.was) (sym c.index-system_ports-place.is) ∙ sym c.has_stopped.ensures ∙ c.if-has_stopped.true)
    (subst (λ (x : SystemPort). ChangesAssignments t new (after_leave x.number)) c.index-system_ports-place.is c.leave.ensures.changed)

pub returns-else-has_stopped-clause-changed : goal.returns-else-has_stopped-clause-changed
returns-else-has_stopped-clause-changed g c = let s = c.index-system_ports-place.result in
    one_stays c.args.system_ports.now c.args.place c.args.was s c.args.distributor.now.table c.requires
    (ap (has_stopped c.args.was) (sym c.index-system_ports-place.is) ∙ sym c.has_stopped.ensures ∙ c.if-has_stopped.false)
