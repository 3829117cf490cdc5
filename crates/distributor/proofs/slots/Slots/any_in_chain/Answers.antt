use Rattle.distributor.proofs.Common.{ap, arith, false, nat_lt, refl, sym, ◌+◌, ◌∙◌, passes}
use Rattle.distributor.proofs.FlagLemmas.{some_counted}
use Rattle.distributor.proofs.WalkLemmas.{counting_begins, counting_ends, counting_on, read_state, stand_next, steps_fewer, walk_below}
use Rattle.distributor.proofs.slots.Slots.any_in_chain.Goals as goal

pub loop-at-init : goal.loop-at-init
loop-at-init c = grind (arith, counting_begins)

pub index-requires : goal.index-requires
index-requires c = let w = c.loop-at.invariant.standing in
    omega (arith, walk_below w c.loop-at-test.true, w.chained.states_len, c.args.self.now.states.ok.0)

pub index-at-requires-in-loop-at : goal.index-at-requires-in-loop-at
index-at-requires-in-loop-at c = let w = c.loop-at.invariant.standing in
    omega (arith, walk_below w c.loop-at-test.true, w.chained.next_len, c.args.self.now.next.ok.0)

pub loop-at-preserved : goal.loop-at-preserved
loop-at-preserved c = let i = c.loop-at.invariant in
    let here = ap (passes c.args.test) (read_state i.standing c.loop-at-test.true _ c.index.ensures) in
    counting_on i c.loop-at-test.true false _ _ (sym (c.passes.ensures ∙ here) ∙ c.if-passes.false) refl c.index-at-in-loop-at.ensures

pub loop-at-smaller : goal.loop-at-smaller
loop-at-smaller c = let w = c.loop-at.invariant.standing in
    steps_fewer w c.loop-at-test.true (stand_next w c.loop-at-test.true _ c.index-at-in-loop-at.ensures) refl

pub returns-then-passes : goal.returns-then-passes
returns-then-passes c = let w = c.loop-at.invariant.standing in
    some_counted (passes c.args.test) c.args.self.now.states.items c.args.self.now.count c.loop-at.at (walk_below w c.loop-at-test.true)
    (sym (c.passes.ensures ∙ ap (passes c.args.test) (read_state w c.loop-at-test.true _ c.index.ensures)) ∙ c.if-passes.true)

pub returns : goal.returns
returns c = ap (nat_lt 0) (counting_ends c.loop-at.invariant c.loop-at-test.false)
