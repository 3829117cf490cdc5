use Rattle.lagtool_capture.proofs.Common.{take, HasWritten, IsPlainFormatter}
use Rattle.lagtool_capture.specs.EndTexts.{ends_text}
use Rattle.lagtool_capture.proofs.end_texts.EndsTextDisplay.fmt.Given as goal

abbrev pub invariant-loop-end : goal.invariant-loop-end
invariant-loop-end g l = IsPlainFormatter l.initial.f
    → HasWritten g.W.Write.write_str_gives l.initial.f (ends_text l.first l.names l.all (take l.end-index l.all)) l.f
