use Rattle.lagtool_capture.proofs.Common.{List, slice_get, take, ◌++◌, ◌≡◌, SlowFrame, ends_of, IsKnown, findings_by}
use Rattle.lagtool_capture.proofs.noticing.put_findings.Given as goal

abbrev pub invariant-loop-rule : goal.invariant-loop-rule
invariant-loop-rule l = (h : List SlowFrame) → IsKnown h l.findings
    → l.out.items ≡ l.initial.out.items ++ findings_by l.until h (take l.rule-index l.rules) (slice_get (ends_of l.findings.kept.items) l.index)
