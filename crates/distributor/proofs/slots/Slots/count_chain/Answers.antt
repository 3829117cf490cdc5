use Rattle.distributor.proofs.Common.{Bool, ap, arith, false, refl, sym, true, ◌+◌, ◌∙◌, ◌≡◌, ◌≤◌, passes}
use mir.Val.{bool_byte}
use Rattle.distributor.proofs.WalkLemmas.{bit, counting_begins, counting_ends, counting_few, counting_on, read_state, stand_next, steps_fewer}
use Rattle.distributor.proofs.WalkLemmas.{walk_below}
use Rattle.distributor.proofs.slots.Slots.count_chain.Goals as goal

bool_bit : (b : Bool) → bool_byte b ≡ bit b
bool_bit b = grind arith

bit_few : (b : Bool) → bit b ≤ 1
bit_few b = grind arith

pub loop-at-init : goal.loop-at-init
loop-at-init c = grind (arith, counting_begins)

pub index-requires : goal.index-requires
index-requires c = let w = c.loop-at.invariant.standing in
    omega (arith, walk_below w c.loop-at-test.true, w.chained.states_len, c.args.self.now.states.ok.0)

pub index-at-requires-in-loop-at : goal.index-at-requires-in-loop-at
index-at-requires-in-loop-at c = let w = c.loop-at.invariant.standing in
    omega (arith, walk_below w c.loop-at-test.true, w.chained.next_len, c.args.self.now.next.ok.0)

pub overflow_add-count : goal.overflow_add-count
overflow_add-count c = let i = c.loop-at.invariant in
    omega (arith, counting_few i, i.standing.chained.few, c.from-count.ensures ∙ bool_bit c.passes-passes.result, bit_few c.passes-passes.result)

pub loop-at-preserved : goal.loop-at-preserved
loop-at-preserved c = let i = c.loop-at.invariant in
    let more = c.from-count.ensures ∙ bool_bit c.passes-passes.result in
    counting_on i c.loop-at-test.true c.passes-passes.result _ _
    (sym (c.passes-passes.ensures ∙ ap (passes c.args.test) (read_state i.standing c.loop-at-test.true _ c.index.ensures)))
    (omega (arith, more)) c.index-at-in-loop-at.ensures

pub loop-at-smaller : goal.loop-at-smaller
loop-at-smaller c = let w = c.loop-at.invariant.standing in
    steps_fewer w c.loop-at-test.true (stand_next w c.loop-at-test.true _ c.index-at-in-loop-at.ensures) refl

pub returns : goal.returns
returns c = counting_ends c.loop-at.invariant c.loop-at-test.false
