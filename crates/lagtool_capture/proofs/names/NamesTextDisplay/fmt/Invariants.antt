use Rattle.lagtool_capture.proofs.Common.{take, HasWritten, IsPlainFormatter, names_text}
use Rattle.lagtool_capture.proofs.names.NamesTextDisplay.fmt.Given as goal

abbrev pub invariant-loop-name : goal.invariant-loop-name
invariant-loop-name g l = IsPlainFormatter l.initial.f
    → HasWritten g.W.Write.write_str_gives l.initial.f (names_text l.names (take l.name-index l.names)) l.f
