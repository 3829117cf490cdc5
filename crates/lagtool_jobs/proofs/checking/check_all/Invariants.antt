use Rattle.lagtool_jobs.proofs.Common.{[], false, ◌+◌, ◌≡◌, ◌≤◌}
use Rattle.lagtool_jobs.proofs.ReportLemmas.{Told}
use Rattle.lagtool_jobs.proofs.checking.check_all.Given as goal

abbrev pub invariant-loop-scan : goal.invariant-loop-scan
invariant-loop-scan g l = record {
  told : Told g.R.Read.remaining g.W.Write.contents l.initial.source l.source l.initial.sink l.sink l.scan;
  to_write : l.scan.to_write ≡ [];
  source : l.source.failed ≡ false;
  sink : l.sink.failed ≡ false;
  left : l.scan.lines + l.source.left ≤ l.initial.source.left;
}

abbrev pub decreases-loop-scan : goal.decreases-loop-scan
decreases-loop-scan g l = l.source.left
