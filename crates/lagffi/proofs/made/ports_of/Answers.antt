use Rattle.lagffi.proofs.Common.{arith, lag_port_config}
use Rattle.lagffi.proofs.MadeLemmas.{mapped_more}
use Rattle.lagffi.proofs.made.ports_of.Goals as goal

pub loop-port-preserved : goal.loop-port-preserved
loop-port-preserved c = record {
  same = mapped_more lag_port_config c.args.ports.now c.loop-port.found.items c.push_reserved.new.self.items c.loop-port.port-index _
      c.config.result c.loop-port-test.true c.loop-port.invariant.same c.config.ensures c.push_reserved.ensures.items;
  count = omega (arith, c.push_reserved.ensures.len, c.loop-port.invariant.count);
  room = omega (arith, c.push_reserved.ensures.capacity, c.loop-port.invariant.room);
}
