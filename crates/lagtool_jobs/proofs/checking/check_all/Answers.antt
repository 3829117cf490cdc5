use Rattle.lagtool_jobs.proofs.Common.{[], ap, append-nil, arith, sym, take, ◌∙◌, ◌≡◌, length-take-le, NoMemory, Read, Write, unwritten}
use Rattle.lagtool_jobs.proofs.ReportLemmas.{all_said, ends, on_fault, pending, stops_reading, stops_short, stops_writing, told_reads, told_still}
use Rattle.lagtool_jobs.proofs.ReportLemmas.{told_writes}
use Rattle.lagtool_jobs.proofs.checking.check_all.Goals as goal

pub returns-in_err-n-clause-err : goal.returns-in_err-n-clause-err
returns-in_err-n-clause-err g c = let i = c.loop-scan.invariant in
    on_fault _ Read c.from_residual.result c.from_residual.ensures.1 (stops_reading i.told i.to_write c.in_err-n.ensures.err)

pub returns-in_err-feed-clause-err : goal.returns-in_err-feed-clause-err
returns-in_err-feed-clause-err g c = let i = c.loop-scan.invariant in
    let bound = c.in_ok-n.ensures.bound in
    on_fault _ NoMemory c.from_residual-in_err-feed.result c.from_residual-in_err-feed.ensures.1 (stops_short i.told i.to_write
    c.in_ok-n.ensures.ok (omega (arith, bound, c.read.auto.piece, length-take-le c.in_ok-n.n c.read.new.piece bound)))

pub loop-scan-preserved : goal.loop-scan-preserved
loop-scan-preserved g c = let i = c.loop-scan.invariant in
    let e = c.in_ok-write.ensures in
    let gives = c.in_ok-n.ensures.ok in
    let (none, same) = all_said c.feed.new.self c.write.new.self e.to_write in
    record {
      told = told_writes (told_reads i.told gives c.in_ok-feed.ensures.reads) e.ok e.to_write;
      to_write = none;
      source = gives.failed ∙ i.source;
      sink = e.ok.failed ∙ i.sink;
      left = omega (arith, same, c.in_ok-feed.ensures.lines, gives.left, i.left);
    }

pub returns-in_err-write-clause-err : goal.returns-in_err-write-clause-err
returns-in_err-write-clause-err g c = let i = c.loop-scan.invariant in
    let bound = c.in_ok-n.ensures.bound in
    let s = c.loop-scan.scan in
    let t = c.feed.new.self in
    on_fault _ Write c.from_residual-in_err-write.result c.from_residual-in_err-write.ensures.1
    (stops_writing t.to_write (pending t.lines t.faults t.line []) i.told i.to_write c.in_ok-n.ensures.ok
    (omega (arith, bound, c.read.auto.piece, length-take-le c.in_ok-n.n c.read.new.piece bound))
    (ap (unwritten s) (sym (append-nil (take c.in_ok-n.n c.read.new.piece))) ∙ c.in_ok-feed.ensures.reads.report [])
    c.in_err-write.ensures.err.written)

pub returns-in_err-summary-clause-err : goal.returns-in_err-summary-clause-err
returns-in_err-summary-clause-err g c = let i = c.loop-scan.invariant in
    let bound = c.in_ok-n.ensures.bound in
    on_fault _ NoMemory c.from_residual-in_err-summary.result c.from_residual-in_err-summary.ensures.1 (stops_short i.told i.to_write
    c.in_ok-n.ensures.ok (omega (arith, bound, c.read.auto.piece, length-take-le c.in_ok-n.n c.read.new.piece bound)))

pub returns-in_err-write-2-clause-err : goal.returns-in_err-write-2-clause-err
returns-in_err-write-2-clause-err g c = let i = c.loop-scan.invariant in
    let bound = c.in_ok-n.ensures.bound in
    let to_write = c.finish.new.self.to_write in
    on_fault _ Write c.from_residual-in_err-write-2.result c.from_residual-in_err-write-2.ensures.1
    (stops_writing to_write [] i.told i.to_write c.in_ok-n.ensures.ok
    (omega (arith, bound, c.read.auto.piece, length-take-le c.in_ok-n.n c.read.new.piece bound))
    (ap (λ k. unwritten c.loop-scan.scan (take k c.read.new.piece)) c.if-n-eq0.true ∙ sym c.in_ok-summary.ensures.to_write
    ∙ sym (append-nil to_write)) c.in_err-write-2.ensures.err.written)

pub returns-clause-ok : goal.returns-clause-ok
returns-clause-ok g c = let none : take c.in_ok-n.n c.read.new.piece ≡ [] = ap (λ k. take k c.read.new.piece) c.if-n-eq0.true in
    ends (told_still c.loop-scan.invariant.told c.in_ok-n.ensures.ok none) c.in_ok-summary.ensures.to_write
    c.in_ok-summary.ensures.counts (c.in_ok-n.ensures.end c.if-n-eq0.true) c.in_ok-write-2.ensures.ok
