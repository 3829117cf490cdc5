use Rattle.distributor.proofs.Common.{ap, arith, refl, ◌∙◌, ticks_until_wanted}
use Rattle.distributor.proofs.WaitLemmas.{seeking_begins, seeking_ends, seeking_on}
use Rattle.distributor.proofs.WalkLemmas.{read_state, stand_next, steps_fewer, walk_below}
use Rattle.distributor.proofs.slots.Slots.ticks_in_chain.Goals as goal

pub loop-at-init : goal.loop-at-init
loop-at-init c = seeking_begins c.requires.chained c.args.chain _ _ c.requires.below refl c.index-at.ensures

pub index-requires : goal.index-requires
index-requires c = let w = c.loop-at.invariant.standing in
    omega (arith, walk_below w c.loop-at-test.true, w.chained.states_len, c.args.self.now.states.ok.0)

pub index-at-requires-in-loop-at : goal.index-at-requires-in-loop-at
index-at-requires-in-loop-at c = let w = c.loop-at.invariant.standing in
    omega (arith, walk_below w c.loop-at-test.true, w.chained.next_len, c.args.self.now.next.ok.0)

pub loop-at-preserved : goal.loop-at-preserved
loop-at-preserved c = let i = c.loop-at.invariant in
    seeking_on i c.loop-at-test.true c.ticks_until_wanted.result _ _
    (c.ticks_until_wanted.ensures ∙ ap ticks_until_wanted (read_state i.standing c.loop-at-test.true _ c.index.ensures))
    c.sooner-soonest.ensures c.index-at-in-loop-at.ensures

pub loop-at-smaller : goal.loop-at-smaller
loop-at-smaller c = let w = c.loop-at.invariant.standing in
    steps_fewer w c.loop-at-test.true (stand_next w c.loop-at-test.true _ c.index-at-in-loop-at.ensures) refl

pub returns-clause-taken : goal.returns-clause-taken
returns-clause-taken c = c.loop-at.invariant.taken

pub returns-clause-soonest : goal.returns-clause-soonest
returns-clause-soonest c = seeking_ends c.loop-at.invariant c.loop-at-test.false
