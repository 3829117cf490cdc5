use Rattle.lagffi.proofs.Common.{arith, drop, ◌<◌, ◌^◌, ◌≤◌, mask}
use Rattle.lagffi.proofs.MaskLemmas.{bit_at_most, room_for_a_bit}
use Rattle.lagffi.proofs.masks.mask.Goals as goal

pub overflow_mul-value : goal.overflow_mul-value
overflow_mul-value c = let small : mask (drop c.loop-left.left c.args.bits.now) < 2 ^ 63 =
    room_for_a_bit c.args.bits.now c.loop-left.left c.requires c.loop-left-test.true in
    omega (arith, small, c.loop-left.invariant.rest)

pub overflow_add-value : goal.overflow_add-value
overflow_add-value c = let small : mask (drop c.loop-left.left c.args.bits.now) < 2 ^ 63 =
    room_for_a_bit c.args.bits.now c.loop-left.left c.requires c.loop-left-test.true in
    let bit : c.from.result ≤ 1 = bit_at_most _ c.from.result c.from.ensures in
    omega (arith, small, c.loop-left.invariant.rest, bit)
