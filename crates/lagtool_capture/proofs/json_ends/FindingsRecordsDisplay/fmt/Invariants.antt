use Rattle.lagtool_capture.proofs.Common.{take, HasWritten, IsPlainFormatter, findings_records}
use Rattle.lagtool_capture.proofs.json_ends.FindingsRecordsDisplay.fmt.Given as goal

abbrev pub invariant-loop-finding : goal.invariant-loop-finding
invariant-loop-finding g l = IsPlainFormatter l.initial.f
    → HasWritten g.W.Write.write_str_gives l.initial.f (findings_records l.first (take l.finding-index l.finding-items)) l.f
