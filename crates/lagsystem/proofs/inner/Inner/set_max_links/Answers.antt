use Rattle.lagsystem.proofs.Common.{ap, arith, sym, ◌∙◌, with_items_is, with_items, aggregators_in_use, inner_state, limit_refusal}
use Rattle.lagsystem.proofs.Settled.{limits_carried, limits_made}
use Rattle.lagsystem.proofs.inner.Inner.set_max_links.Goals as goal

pub settle-requires-clause-were : goal.settle-requires-clause-were
settle-requires-clause-were g c = let s = inner_state c.args.self.now in
    let v = c.args.self.now.system_ports in
    let ws = c.unselect_down.new.system_ports in
    let news = (with_items v ws).items in
    let own = limits_made c.args.max_links s c.set_max_links.new.self c.deref_mut.result.now ws news c.set_max_links.ensures
    c.deref_mut.ensures.value (with_items_is v ws (omega arith))
    c.unselect_down.ensures in
    limits_carried c.args.max_links s _ c.as_slice.result.now c.requires own
    (c.as_slice.ensures.value ∙ c.list_aggregators_in_use.ensures ∙ ap aggregators_in_use c.deref-2.ensures.value)

pub returns-clause-step : goal.returns-clause-step
returns-clause-step g c = let s = inner_state c.args.self.now in
    let v = c.args.self.now.system_ports in
    let ws = c.unselect_down.new.system_ports in
    let news = (with_items v ws).items in (
      sym (c.limit_refusal.ensures ∙ ap (limit_refusal c.args.max_links) c.deref.ensures.value) ∙ c.in-None.is,
      (
        _,
        limits_made c.args.max_links s c.set_max_links.new.self c.deref_mut.result.now ws news c.set_max_links.ensures
            c.deref_mut.ensures.value (with_items_is v ws (omega arith)) c.unselect_down.ensures,
        c.settle.ensures.settled,
      ),
    )
