use Rattle.lagtool_capture.proofs.Common.{length, ◌-◌, ◌≤◌}
use Rattle.lagtool_capture.proofs.TakingLemmas.{Reads}
use Rattle.lagtool_capture.proofs.taking.take_steps.Given as goal

abbrev pub invariant-loop-count : goal.invariant-loop-count
invariant-loop-count l = record {
  reads : Reads l.octets l.initial.reader l.reader l.initial.report l.report l.initial.noticed l.noticed l.count;
  within : l.count ≤ length l.octets;
}

abbrev pub decreases-loop-count : goal.decreases-loop-count
decreases-loop-count l = length l.octets - l.count
