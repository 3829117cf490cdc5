use Rattle.lagsystem.proofs.NextLemmas.{promoted_more}
use Rattle.lagsystem.proofs.promoting.promote_each.Goals as goal

pub loop-before-preserved : goal.loop-before-preserved
loop-before-preserved c = record {
  promoted = promoted_more c.args.aggregators.now c.loop-before.before c.args.system_ports.now c.loop-before.system_ports
      c.promote_all.new.system_ports c.loop-before.invariant.promoted c.promote_all.ensures.promoted;
  port_views = c.promote_all.ensures.port_views;
}
