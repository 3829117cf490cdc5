use Rattle.lagsystem.proofs.Common.{None, ap, get_or, subst, sym, ◌∙◌, ◌≡◌, ChangesAssignments, after_leave, SystemPort, has_stopped}
use Rattle.lagsystem.proofs.HoldingLemmas.{left_more, left_same}
use Rattle.lagsystem.proofs.holding.hold_conversations.Goals as goal
use Rattle.lagsystem.proofs.holding.hold_conversations.Goals.{then-has_stopped, else-has_stopped}

pub loop-place-preserved : goal.loop-place-preserved
loop-place-preserved g c = let befores = c.args.before.now in
    let system_ports = c.args.system_ports.now in
    let i = c.loop-place.place in
    let s = c.index-system_ports-place.result in
    let old = c.args.distributor.now.table in
    let mid = c.loop-place.distributor.table in
    let h = c.loop-place.invariant in
    let is : c.has_stopped.result ≡ has_stopped (get_or befores i None) (get_or system_ports i s) = c.has_stopped.ensures
    ∙ ap (has_stopped (get_or befores i None)) c.index-system_ports-place.is in
    elim c.if-has_stopped.branch [
      | then-has_stopped w ↦
          let new = w.leave.new.self.table in
          let k = subst (λ (x : SystemPort). ChangesAssignments mid new (after_leave x.number)) c.index-system_ports-place.is
          w.leave.ensures.changed in
          rw w.distributor-is record {
            changed = left_more befores system_ports i None s old mid new c.loop-place-test.true c.requires h.changed (sym is
                ∙ w.if-has_stopped.true) k;
            algorithm = w.leave.ensures.algorithm ∙ h.algorithm;
          }
      | else-has_stopped w ↦
          rw w.distributor-is record {
            changed = left_same befores system_ports i None s old mid c.loop-place-test.true c.requires h.changed (sym is
                ∙ w.if-has_stopped.false);
            algorithm = h.algorithm;
          }
    ]
