use Rattle.lagtool_capture.proofs.Common.{take, HasWritten, IsPlainFormatter, ends_records}
use Rattle.lagtool_capture.proofs.json_ends.EndsRecordsDisplay.fmt.Given as goal

abbrev pub invariant-loop-end : goal.invariant-loop-end
invariant-loop-end g l = IsPlainFormatter l.initial.f
    → HasWritten g.W.Write.write_str_gives l.initial.f (ends_records l.first l.all (take l.end-index l.all)) l.f
