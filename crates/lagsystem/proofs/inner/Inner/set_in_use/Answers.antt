use Rattle.lagsystem.proofs.Common.{ap, arith, sym, ◌∙◌, with_items_is, with_items, aggregators_in_use, inner_state}
use Rattle.lagsystem.proofs.Settled.{uses_carried, uses_made}
use Rattle.lagsystem.proofs.inner.Inner.set_in_use.Goals as goal

pub settle-requires-clause-were : goal.settle-requires-clause-were
settle-requires-clause-were g c = let s = inner_state c.args.self.now in
    let v = c.args.self.now.system_ports in
    let ws = c.stand_each_by.new.system_ports in
    let news = (with_items v ws).items in
    let own = uses_made c.args.agg c.args.in_use s c.set_in_use.new.self c.deref_mut.result.now ws news c.set_in_use.ensures
    c.deref_mut.ensures.value (with_items_is v ws (omega arith)) c.stand_each_by.ensures in
    uses_carried c.args.agg c.args.in_use s _ c.as_slice.result.now c.requires own
    (c.as_slice.ensures.value ∙ c.list_aggregators_in_use.ensures ∙ ap aggregators_in_use c.deref.ensures.value)

pub returns-clause-step : goal.returns-clause-step
returns-clause-step g c = let s = inner_state c.args.self.now in
    let v = c.args.self.now.system_ports in
    let ws = c.stand_each_by.new.system_ports in
    let news = (with_items v ws).items in (
      sym c.has_aggregator.ensures ∙ c.if-not-has_aggregator.false,
      (
        _,
        uses_made c.args.agg c.args.in_use s c.set_in_use.new.self c.deref_mut.result.now ws news c.set_in_use.ensures
            c.deref_mut.ensures.value (with_items_is v ws (omega arith)) c.stand_each_by.ensures,
        c.settle.ensures.settled,
      ),
    )
