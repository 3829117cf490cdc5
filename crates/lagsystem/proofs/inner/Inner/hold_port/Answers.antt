use Rattle.lagsystem.proofs.Common.{ap, arith, refl, ◌∙◌, ◌≡◌, OnFalse_at, OnTrue_at, with_items_is, with_items, aggregators_in_use, inner_state}
use Rattle.lagsystem.proofs.Common.{PortBecomes, is_held_so, with_held, port_index, with_system_ports}
use Rattle.lagsystem.proofs.NextStays.{becomes_next}
use Rattle.lagsystem.proofs.Settled.{becomes_carried, becomes_made, becomes_settled, is_so_already}
use Rattle.lagsystem.proofs.SettingsKeep.{held_leaves}
use Rattle.lagsystem.proofs.inner.Inner.hold_port.Goals as goal

pub settle-requires-clause-were : goal.settle-requires-clause-were
settle-requires-clause-were g c = let s = inner_state c.args.self.now in
    let v = c.args.self.now.system_ports in
    let i = c.in_ok-place.place in
    let olds = c.deref_mut.result.now in
    let ws = c.hold_at.new.system_ports in
    let news = (with_items v ws).items in
    let acted : PortBecomes (is_held_so c.args.held) (with_held c.args.held) i olds ws =
    OnTrue_at {P = PortBecomes (is_held_so c.args.held) (with_held c.args.held) i olds ws} c.if-not-hold_at.false c.hold_at.ensures.acted in
    let own = becomes_made (is_held_so c.args.held) (with_held c.args.held) i s olds ws news c.deref_mut.ensures.value (with_items_is v ws (omega arith)) acted in
    becomes_carried (is_held_so c.args.held) (with_held c.args.held) i s (with_system_ports s news) c.as_slice.result.now (λ x. refl) c.requires own
    (c.as_slice.ensures.value ∙ c.list_aggregators_in_use.ensures ∙ ap aggregators_in_use c.deref.ensures.value)

pub settle-requires-clause-next : goal.settle-requires-clause-next
settle-requires-clause-next g c = let s = inner_state c.args.self.now in
    let v = c.args.self.now.system_ports in
    let i = c.in_ok-place.place in
    let olds = c.deref_mut.result.now in
    let ws = c.hold_at.new.system_ports in
    let news = (with_items v ws).items in
    let acted : PortBecomes (is_held_so c.args.held) (with_held c.args.held) i olds ws =
    OnTrue_at {P = PortBecomes (is_held_so c.args.held) (with_held c.args.held) i olds ws} c.if-not-hold_at.false c.hold_at.ensures.acted in
    becomes_next (is_held_so c.args.held) (with_held c.args.held) i s (with_system_ports s news) (λ x. held_leaves c.args.held x.port) c.requires
    (becomes_made (is_held_so c.args.held) (with_held c.args.held) i s olds ws news c.deref_mut.ensures.value (with_items_is v ws (omega arith)) acted)

pub returns-clause-step : goal.returns-clause-step
returns-clause-step g c = let s = inner_state c.args.self.now in
    let v = c.args.self.now.system_ports in
    let i = c.in_ok-place.place in
    let olds = c.deref_mut.result.now in
    let ws = c.hold_at.new.system_ports in
    let news = (with_items v ws).items in
    let acted : PortBecomes (is_held_so c.args.held) (with_held c.args.held) i olds ws =
    OnTrue_at {P = PortBecomes (is_held_so c.args.held) (with_held c.args.held) i olds ws} c.if-not-hold_at.false c.hold_at.ensures.acted in
    becomes_settled (is_held_so c.args.held) (with_held c.args.held) (port_index c.args.number s.system_ports) i s (with_system_ports s news)
    _ c.in_ok-place.ensures.place
    (becomes_made (is_held_so c.args.held) (with_held c.args.held) i s olds ws news c.deref_mut.ensures.value (with_items_is v ws (omega arith)) acted)
    c.settle.ensures.settled

pub returns-then-not-hold_at-clause-step : goal.returns-then-not-hold_at-clause-step
returns-then-not-hold_at-clause-step g c = let s = inner_state c.args.self.now in
    let v = c.args.self.now.system_ports in
    let olds = c.deref_mut.result.now in
    let ws = c.hold_at.new.system_ports in
    is_so_already (is_held_so c.args.held) (with_held c.args.held) (port_index c.args.number s.system_ports) c.in_ok-place.place s _ olds c.in_ok-place.ensures.place
    c.deref_mut.ensures.value (OnFalse_at c.if-not-hold_at.true c.hold_at.ensures.stays)
    (ap (with_system_ports s) (with_items_is v ws (omega arith)
    ∙ OnFalse_at {P = ws ≡ olds} c.if-not-hold_at.true c.hold_at.ensures.unchanged ∙ c.deref_mut.ensures.value))
