use Rattle.lagsystem.proofs.Common.{Some, ap, arith, refl, subst, ◌∙◌, with_items_is, with_items, PortAtChangesBy, SetsPortEnabled}
use Rattle.lagsystem.proofs.Common.{aggregators_in_use, inner_state}
use Rattle.lagsystem.proofs.NextStays.{link_next}
use Rattle.lagsystem.proofs.PlaceLemmas.{goes_by_number}
use Rattle.lagsystem.proofs.Settled.{link_carried, link_made, moved_on}
use Rattle.lagsystem.proofs.inner.Inner.set_link.Goals as goal

pub settle-requires-clause-were : goal.settle-requires-clause-were
settle-requires-clause-were g c = let s = inner_state c.args.self.now in
    let v = c.args.self.now.system_ports in
    let ws = c.set_link_at.new.system_ports in
    let news = (with_items v ws).items in
    let t = c.free_conversations_if_down.new.distributor.table in
    let acted = goes_by_number (SetsPortEnabled s.max_links c.args.up) c.args.number c.in_ok-place.place s.system_ports c.deref_mut.result.now ws
    c.deref_mut.ensures.value c.in_ok-place.ensures.place (subst (λ o. PortAtChangesBy (SetsPortEnabled o c.args.up) (Some c.in_ok-place.place)
    c.deref_mut.result.now ws) c.max_links.ensures c.set_link_at.ensures) in
    let own = link_made c.args.number c.args.up s c.deref_mut.result.now ws news t c.deref_mut.ensures.value
    (with_items_is v ws (omega arith)) refl refl acted c.free_conversations_if_down.ensures.frees in
    link_carried c.args.number c.args.up s (moved_on s news t) c.as_slice.result.now c.requires own (c.as_slice.ensures.value
    ∙ c.list_aggregators_in_use.ensures ∙ ap aggregators_in_use c.deref.ensures.value)

pub settle-requires-clause-next : goal.settle-requires-clause-next
settle-requires-clause-next g c = let s = inner_state c.args.self.now in
    let v = c.args.self.now.system_ports in
    let ws = c.set_link_at.new.system_ports in
    let news = (with_items v ws).items in
    let t = c.free_conversations_if_down.new.distributor.table in
    let acted = goes_by_number (SetsPortEnabled s.max_links c.args.up) c.args.number c.in_ok-place.place s.system_ports c.deref_mut.result.now ws
    c.deref_mut.ensures.value c.in_ok-place.ensures.place (subst (λ o. PortAtChangesBy (SetsPortEnabled o c.args.up) (Some c.in_ok-place.place)
    c.deref_mut.result.now ws) c.max_links.ensures c.set_link_at.ensures) in
    link_next c.args.number c.args.up s (moved_on s news t) c.requires (link_made c.args.number c.args.up s c.deref_mut.result.now ws news t
    c.deref_mut.ensures.value (with_items_is v ws (omega arith)) refl refl acted c.free_conversations_if_down.ensures.frees)

pub returns-clause-step : goal.returns-clause-step
returns-clause-step g c = let s = inner_state c.args.self.now in
    let v = c.args.self.now.system_ports in
    let ws = c.set_link_at.new.system_ports in
    let news = (with_items v ws).items in
    let t = c.free_conversations_if_down.new.distributor.table in
    let acted = goes_by_number (SetsPortEnabled s.max_links c.args.up) c.args.number c.in_ok-place.place s.system_ports c.deref_mut.result.now ws
    c.deref_mut.ensures.value c.in_ok-place.ensures.place (subst (λ o. PortAtChangesBy (SetsPortEnabled o c.args.up) (Some c.in_ok-place.place)
    c.deref_mut.result.now ws) c.max_links.ensures c.set_link_at.ensures) in (
      moved_on s news t,
      link_made c.args.number c.args.up s c.deref_mut.result.now ws news t c.deref_mut.ensures.value (with_items_is v ws (omega arith)) refl refl
          acted c.free_conversations_if_down.ensures.frees,
      c.settle.ensures.settled,
    )
