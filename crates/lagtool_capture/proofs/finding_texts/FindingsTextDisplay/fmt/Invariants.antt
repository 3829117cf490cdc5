use Rattle.lagtool_capture.proofs.Common.{take, HasWritten, IsPlainFormatter}
use Rattle.lagtool_capture.specs.FindingTexts.{findings_text}
use Rattle.lagtool_capture.proofs.finding_texts.FindingsTextDisplay.fmt.Given as goal

abbrev pub invariant-loop-finding : goal.invariant-loop-finding
invariant-loop-finding g l = IsPlainFormatter l.initial.f
    → HasWritten g.W.Write.write_str_gives l.initial.f (findings_text l.first (take l.finding-index l.finding-items)) l.f
