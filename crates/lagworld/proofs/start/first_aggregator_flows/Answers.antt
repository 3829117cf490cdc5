use Rattle.lagworld.proofs.Common.{arith, flow_value, empty_flow}
use Rattle.lagworld.proofs.StartLemmas.{filled}
use Rattle.lagworld.proofs.start.first_aggregator_flows.Goals as goal

pub loop-made-preserved : goal.loop-made-preserved
loop-made-preserved c = record {
  within = omega arith;
  same = filled flow_value c.loop-made.conversations.items c.push_reserved.new.self.items c.first_flow.result empty_flow c.loop-made.made
      c.loop-made.invariant.same c.first_flow.ensures c.push_reserved.ensures.items;
  count = omega (arith, c.push_reserved.ensures.len, c.loop-made.invariant.count);
  room = omega (arith, c.push_reserved.ensures.capacity, c.loop-made.invariant.room);
}
