use Rattle.lagffi.proofs.Common.{arith, lag_key}
use Rattle.std.proofs.Common.{refl}
use Rattle.lagffi.proofs.MadeLemmas.{mapped_more}
use Rattle.lagffi.proofs.made.keys_of.Goals as goal

pub loop-key-preserved : goal.loop-key-preserved
loop-key-preserved c = record {
  same = mapped_more lag_key c.args.keys.now c.loop-key.found.items c.push_reserved.new.self.items c.loop-key.key-index _ _
      c.loop-key-test.true c.loop-key.invariant.same refl c.push_reserved.ensures.items;
  count = omega (arith, c.push_reserved.ensures.len, c.loop-key.invariant.count);
  room = omega (arith, c.push_reserved.ensures.capacity, c.loop-key.invariant.room);
}
