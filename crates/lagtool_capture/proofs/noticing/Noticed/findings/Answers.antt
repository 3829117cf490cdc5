use Rattle.lagtool_capture.proofs.Common.{arith, length-map, ends_of}
use Rattle.findings.specs.declared.kept_end.KeptEnd.{KeptEnd}
use Rattle.lagtool_capture.proofs.NoticingLemmas.{end_added}
use Rattle.lagtool_capture.proofs.noticing.Noticed.findings.Goals as goal

pub loop-index-preserved : goal.loop-index-preserved
loop-index-preserved c = λ g i.
    let ws = c.args.self.now.findings.kept.items in
    end_added g c.args.self.now.until c.loop-index.index (ends_of ws) c.loop-index.found.items c.put_findings.new.out.items i.until
    (omega (arith, length-map ws (λ (w : KeptEnd). w.end), c.count-index-end.ensures, c.loop-index-test.true))
    (c.loop-index.invariant g i) (c.in_ok-put_findings.ensures g.frames i.frames)
