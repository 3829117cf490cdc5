use Rattle.lagtool_capture.proofs.Common.{ap, sym, true≢false, ◌∙◌, is_free}
use Rattle.lagtool_capture.proofs.JobLemmas.{completes, goes_by, ends_by, told_first, told_reads, told_writes}
use Rattle.lagtool_capture.proofs.job.report_capture.Goals as goal

pub loop-goes_on-init : goal.loop-goes_on-init
loop-goes_on-init g c = record {
  told = told_first _ _ _ c.new-reading.ensures;
  source = c.requires.source;
  sink = c.requires.sink;
  goes = λ e. ap is_free c.new-reading.ensures.fault;
  ends = λ e. absurd (true≢false e);
}

pub loop-goes_on-preserved : goal.loop-goes_on-preserved
loop-goes_on-preserved g c = let i = c.loop-goes_on.invariant in
    let gives = c.in_ok-n.ensures.ok in
    let e = c.in_ok-write.ensures in
    record {
      told = told_writes (told_reads i.told gives (i.goes c.loop-goes_on-test.true) c.in_ok-feed.ensures) e.ok e.to_write;
      source = gives.failed ∙ i.source;
      sink = e.ok.failed ∙ i.sink;
      goes = λ t. goes_by c.in_ok-n.n _ (sym c.is_read_on-goes_on.ensures ∙ t);
      ends = λ f. ends_by c.in_ok-n.n _ c.in_ok-n.ensures.end (sym c.is_read_on-goes_on.ensures ∙ f);
    }

pub returns-clause-ok : goal.returns-clause-ok
returns-clause-ok g c = let i = c.loop-goes_on.invariant in
    completes c.new-reading.ensures i.told c.in_ok-finish.ensures c.in_ok-write-2.ensures.ok c.in_ok-write-2.ensures.to_write
    c.summary.ensures (i.ends c.loop-goes_on-test.false)
