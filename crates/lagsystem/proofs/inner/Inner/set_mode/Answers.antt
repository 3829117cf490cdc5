use Rattle.lagsystem.proofs.Common.{ap, arith, inr, refl, ◌∙◌, ◌≡◌, OnFalse_at, OnTrue_at, with_items_is, with_items, aggregators_in_use, inner_state}
use Rattle.lagsystem.proofs.Common.{PortBecomes, in_mode, is_in_mode, port_index, with_system_ports}
use Rattle.lagsystem.proofs.NextStays.{becomes_next}
use Rattle.lagsystem.proofs.Settled.{becomes_carried, becomes_made, becomes_settled, is_so_already}
use Rattle.lagsystem.proofs.inner.Inner.set_mode.Goals as goal

pub settle-requires-clause-were : goal.settle-requires-clause-were
settle-requires-clause-were g c = let s = inner_state c.args.self.now in
    let v = c.args.self.now.system_ports in
    let i = c.in_ok-place.place in
    let olds = c.deref_mut.result.now in
    let ws = c.set_mode_at.new.system_ports in
    let news = (with_items v ws).items in
    let acted : PortBecomes (is_in_mode c.args.active c.args.short) (in_mode c.args.active c.args.short) i olds ws =
    OnTrue_at {P = PortBecomes (is_in_mode c.args.active c.args.short) (in_mode c.args.active c.args.short) i olds ws} c.if-not-set_mode_at.false c.set_mode_at.ensures.acted in
    let own = becomes_made (is_in_mode c.args.active c.args.short) (in_mode c.args.active c.args.short) i s olds ws news c.deref_mut.ensures.value (with_items_is v ws (omega arith)) acted in
    becomes_carried (is_in_mode c.args.active c.args.short) (in_mode c.args.active c.args.short) i s (with_system_ports s news) c.as_slice.result.now (λ x. refl) c.requires own
    (c.as_slice.ensures.value ∙ c.list_aggregators_in_use.ensures ∙ ap aggregators_in_use c.deref.ensures.value)

pub settle-requires-clause-next : goal.settle-requires-clause-next
settle-requires-clause-next g c = let s = inner_state c.args.self.now in
    let v = c.args.self.now.system_ports in
    let i = c.in_ok-place.place in
    let olds = c.deref_mut.result.now in
    let ws = c.set_mode_at.new.system_ports in
    let news = (with_items v ws).items in
    let acted : PortBecomes (is_in_mode c.args.active c.args.short) (in_mode c.args.active c.args.short) i olds ws =
    OnTrue_at {P = PortBecomes (is_in_mode c.args.active c.args.short) (in_mode c.args.active c.args.short) i olds ws} c.if-not-set_mode_at.false c.set_mode_at.ensures.acted in
    becomes_next (is_in_mode c.args.active c.args.short) (in_mode c.args.active c.args.short) i s (with_system_ports s news) (λ x. inr (refl, refl, refl)) c.requires
    (becomes_made (is_in_mode c.args.active c.args.short) (in_mode c.args.active c.args.short) i s olds ws news c.deref_mut.ensures.value (with_items_is v ws (omega arith)) acted)

pub returns-clause-step : goal.returns-clause-step
returns-clause-step g c = let s = inner_state c.args.self.now in
    let v = c.args.self.now.system_ports in
    let i = c.in_ok-place.place in
    let olds = c.deref_mut.result.now in
    let ws = c.set_mode_at.new.system_ports in
    let news = (with_items v ws).items in
    let acted : PortBecomes (is_in_mode c.args.active c.args.short) (in_mode c.args.active c.args.short) i olds ws =
    OnTrue_at {P = PortBecomes (is_in_mode c.args.active c.args.short) (in_mode c.args.active c.args.short) i olds ws} c.if-not-set_mode_at.false c.set_mode_at.ensures.acted in
    becomes_settled (is_in_mode c.args.active c.args.short) (in_mode c.args.active c.args.short) (port_index c.args.number s.system_ports) i s (with_system_ports s news)
    _ c.in_ok-place.ensures.place
    (becomes_made (is_in_mode c.args.active c.args.short) (in_mode c.args.active c.args.short) i s olds ws news c.deref_mut.ensures.value (with_items_is v ws (omega arith)) acted)
    c.settle.ensures.settled

pub returns-then-not-set_mode_at-clause-step : goal.returns-then-not-set_mode_at-clause-step
returns-then-not-set_mode_at-clause-step g c = let s = inner_state c.args.self.now in
    let v = c.args.self.now.system_ports in
    let olds = c.deref_mut.result.now in
    let ws = c.set_mode_at.new.system_ports in
    is_so_already (is_in_mode c.args.active c.args.short) (in_mode c.args.active c.args.short) (port_index c.args.number s.system_ports) c.in_ok-place.place s _ olds c.in_ok-place.ensures.place
    c.deref_mut.ensures.value (OnFalse_at c.if-not-set_mode_at.true c.set_mode_at.ensures.stays)
    (ap (with_system_ports s) (with_items_is v ws (omega arith)
    ∙ OnFalse_at {P = ws ≡ olds} c.if-not-set_mode_at.true c.set_mode_at.ensures.unchanged ∙ c.deref_mut.ensures.value))
