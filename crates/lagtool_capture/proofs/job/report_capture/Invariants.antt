use Rattle.lagtool_capture.proofs.Common.{cond, false, true, ◌+◌, ◌≡◌, ◌⊎◌, IsAtEnd, is_read_on}
use Rattle.lagtool_capture.proofs.JobLemmas.{Told}
use Rattle.lagtool_capture.proofs.job.report_capture.Given as goal

abbrev pub invariant-loop-goes_on : goal.invariant-loop-goes_on
invariant-loop-goes_on g l = record {
  told : Told g.R.Read.remaining g.W.Write.contents l.initial.reading.report.settings l.initial.source l.source l.initial.sink l.sink l.reading;
  source : l.source.failed ≡ false;
  sink : l.sink.failed ≡ false;
  goes : l.goes_on ≡ true → is_read_on l.reading ≡ true;
  ends : l.goes_on ≡ false → IsAtEnd (g.R.Read.remaining l.source.reader) ⊎ (is_read_on l.reading ≡ false);
}

abbrev pub decreases-loop-goes_on : goal.decreases-loop-goes_on
decreases-loop-goes_on g l = l.source.left + cond l.goes_on 1 0
