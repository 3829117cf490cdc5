use Rattle.lagsystem.proofs.Common.{suc}
use Rattle.lagsystem.proofs.promoting.promote_all.Goals as goal

pub loop-agg-preserved : goal.loop-agg-preserved
loop-agg-preserved c = record {
  promoted = (suc c.loop-agg.invariant.promoted.0, (c.loop-agg.system_ports, c.loop-agg.invariant.promoted.1, c.loop-agg-test.ensures.promoted));
  port_views = c.loop-agg-test.ensures.port_views;
}
