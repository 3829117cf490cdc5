use Rattle.std.proofs.Common.{arith}
use Rattle.findings.specs.Knows.{Takes}
use Rattle.lagtypes.proofs.WritingLemmas.{SoFar-more, SoFar-all}
use Rattle.findings.proofs.observing.see_each.Goals as goal

pub loop-end-preserved : goal.loop-end-preserved
loop-end-preserved c = SoFar-more (Takes c.args.now.now) c.loop-end.end-index c.args.ends.now c.loop-end.ends _ c.see.new.self
    (omega arith) c.loop-end.invariant c.see.ensures

pub returns : goal.returns
returns c =
    SoFar-all (Takes c.args.now.now) c.loop-end.end-index c.args.ends.now c.loop-end.ends (omega arith) c.loop-end.invariant
