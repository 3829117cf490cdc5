use Rattle.lagffi.proofs.Common.{view_at}
use Rattle.lagffi.proofs.MadeLemmas.{mapped_more}
use Rattle.lagffi.proofs.views.views_of.Goals as goal

pub loop-number-preserved : goal.loop-number-preserved
loop-number-preserved g c = mapped_more (view_at c.args.system.now.state) c.args.numbers.now c.loop-number.views.items
    c.push.new.self.items c.loop-number.number-index _ c.view_of.result c.loop-number-test.true c.loop-number.invariant
    c.view_of.ensures c.push.ensures.items
