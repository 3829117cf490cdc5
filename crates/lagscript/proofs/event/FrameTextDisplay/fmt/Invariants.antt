use Rattle.lagscript.proofs.Common.{take}
use Rattle.std.specs.Fmt.{HasWritten, IsPlainFormatter}
use Rattle.lagscript.specs.EntryTexts.{frame_text}
use Rattle.lagscript.proofs.event.FrameTextDisplay.fmt.Given as goal

abbrev pub invariant-loop-octet : goal.invariant-loop-octet
invariant-loop-octet g l =
    IsPlainFormatter l.initial.f → HasWritten g.W.Write.write_str_gives l.initial.f (frame_text (take l.octet-index l.octet-items)) l.f
