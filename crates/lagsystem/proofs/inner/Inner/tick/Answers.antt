use Rattle.lagsystem.proofs.Common.{ap, arith, refl, ◌∙◌, with_items_is, with_items, aggregators_in_use, inner_state}
use Rattle.lagsystem.proofs.NextStays.{tick_next}
use Rattle.lagsystem.proofs.Settled.{moved_on, tick_carried, tick_made}
use Rattle.lagsystem.proofs.inner.Inner.tick.Goals as goal

pub settle-requires-clause-were : goal.settle-requires-clause-were
settle-requires-clause-were g c = let s = inner_state c.args.self.now in
    let v = c.args.self.now.system_ports in
    let ws = c.tick_each.new.system_ports in
    let news = (with_items v ws).items in
    let t = c.tick.new.self.table in
    let own = tick_made s c.deref_mut.result.now ws news t c.deref_mut.ensures.value (with_items_is v ws (omega arith)) refl refl
    c.tick_each.ensures c.tick.ensures.changed in
    tick_carried s (moved_on s news t) c.as_slice.result.now c.requires own (c.as_slice.ensures.value ∙ c.list_aggregators_in_use.ensures
    ∙ ap aggregators_in_use c.deref.ensures.value)

pub settle-requires-clause-next : goal.settle-requires-clause-next
settle-requires-clause-next g c = let s = inner_state c.args.self.now in
    let v = c.args.self.now.system_ports in
    let ws = c.tick_each.new.system_ports in
    let news = (with_items v ws).items in
    let t = c.tick.new.self.table in
    tick_next s (moved_on s news t) c.requires (tick_made s c.deref_mut.result.now ws news t c.deref_mut.ensures.value
    (with_items_is v ws (omega arith)) refl refl c.tick_each.ensures c.tick.ensures.changed)

pub returns-clause-step : goal.returns-clause-step
returns-clause-step g c = let s = inner_state c.args.self.now in
    let v = c.args.self.now.system_ports in
    let ws = c.tick_each.new.system_ports in
    let news = (with_items v ws).items in
    let t = c.tick.new.self.table in (
      moved_on s news t,
      tick_made s c.deref_mut.result.now ws news t c.deref_mut.ensures.value (with_items_is v ws (omega arith)) refl refl
          c.tick_each.ensures c.tick.ensures.changed,
      c.settle.ensures.settled,
    )
