use Rattle.lagsystem.proofs.Common.{Some, arith, slice_get, subst, sym, ◌∙◌, ◌≡◌, OnTrue_at, with_items_is, slice_get-get_or, with_items, SystemPort}
use Rattle.lagsystem.proofs.Common.{ChangesParty, PortAtChangesBy, inner_state, port_index, with_system_ports}
use Rattle.lagsystem.proofs.NextStays.{place_next}
use Rattle.lagsystem.proofs.Occupying.{configure_stays}
use Rattle.lagsystem.proofs.PlaceLemmas.{goes_by_number, were_before}
use Rattle.lagsystem.proofs.Settled.{place_carried}
use Rattle.lagsystem.proofs.StateLemmas.{on_port_made}
use Rattle.lagsystem.proofs.inner.Inner.configure.Goals as goal

pub settle-requires-clause-were : goal.settle-requires-clause-were
settle-requires-clause-were g c = let s = inner_state c.args.self.now in
    let v = c.args.self.now.system_ports in
    let i = c.in_ok-place.place in
    let change = c.args.change in
    let system_port = c.index.result.now in
    let olds = c.deref_mut.result.now in
    let ws = c.configure_at.new.system_ports in
    let news = (with_items v ws).items in
    let there : slice_get v.items i ≡ Some system_port = subst (λ (x : SystemPort). slice_get v.items i ≡ Some x) (sym c.index.ensures)
    (slice_get-get_or v.items i system_port c.in_ok-place.ensures.within) in
    let acted : PortAtChangesBy (ChangesParty change) (Some i) olds ws =
    OnTrue_at {P = PortAtChangesBy (ChangesParty change) (Some i) olds ws} c.if-not-configure_at.false c.configure_at.ensures.acted in
    let numbered = goes_by_number (ChangesParty change) c.args.number i s.system_ports olds ws c.deref_mut.ensures.value
    c.in_ok-place.ensures.place acted in
    let own = on_port_made (ChangesParty change) (port_index c.args.number) s olds ws news c.deref_mut.ensures.value
    (with_items_is v ws (omega arith)) numbered in
    place_carried (ChangesParty change) (port_index c.args.number s.system_ports) s (with_system_ports s news)
    c.as_slice.result.now c.requires own
    (c.as_slice.ensures.value ∙ were_before (ChangesParty change) i s.system_ports olds ws news c.deref.result.now system_port
    c.collecting-was.result c.list_aggregators_in_use_before.new.found.items c.deref_mut.ensures.value (with_items_is v ws (omega arith))
    c.deref.ensures.value there acted c.collecting-was.ensures c.list_aggregators_in_use_before.ensures)

pub settle-requires-clause-next : goal.settle-requires-clause-next
settle-requires-clause-next g c = let s = inner_state c.args.self.now in
    let v = c.args.self.now.system_ports in
    let i = c.in_ok-place.place in
    let change = c.args.change in
    let olds = c.deref_mut.result.now in
    let ws = c.configure_at.new.system_ports in
    let news = (with_items v ws).items in
    let acted : PortAtChangesBy (ChangesParty change) (Some i) olds ws =
    OnTrue_at {P = PortAtChangesBy (ChangesParty change) (Some i) olds ws} c.if-not-configure_at.false c.configure_at.ensures.acted in
    let numbered = goes_by_number (ChangesParty change) c.args.number i s.system_ports olds ws c.deref_mut.ensures.value
    c.in_ok-place.ensures.place acted in
    place_next (ChangesParty change) (configure_stays change) (port_index c.args.number s.system_ports) s (with_system_ports s news) c.requires
    (on_port_made (ChangesParty change) (port_index c.args.number) s olds ws news c.deref_mut.ensures.value (with_items_is v ws (omega arith))
    numbered)

pub returns-clause-step : goal.returns-clause-step
returns-clause-step g c = let s = inner_state c.args.self.now in
    let v = c.args.self.now.system_ports in
    let i = c.in_ok-place.place in
    let change = c.args.change in
    let olds = c.deref_mut.result.now in
    let ws = c.configure_at.new.system_ports in
    let news = (with_items v ws).items in
    let acted : PortAtChangesBy (ChangesParty change) (Some i) olds ws =
    OnTrue_at {P = PortAtChangesBy (ChangesParty change) (Some i) olds ws} c.if-not-configure_at.false c.configure_at.ensures.acted in
    let numbered = goes_by_number (ChangesParty change) c.args.number i s.system_ports olds ws c.deref_mut.ensures.value
    c.in_ok-place.ensures.place acted in (
      with_system_ports s news,
      on_port_made (ChangesParty change) (port_index c.args.number) s olds ws news c.deref_mut.ensures.value
          (with_items_is v ws (omega arith)) numbered,
      c.settle.ensures.settled,
    )
