use Rattle.lagtool_capture.proofs.Common.{take, HasWritten, IsPlainFormatter}
use Rattle.lagtool_capture.specs.LinkForms.{links_text}
use Rattle.lagtool_capture.proofs.link_forms.LinksTextDisplay.fmt.Given as goal

abbrev pub invariant-loop-end : goal.invariant-loop-end
invariant-loop-end g l = IsPlainFormatter l.initial.f
    → HasWritten g.W.Write.write_str_gives l.initial.f (links_text l.form l.first l.all l.until (take l.end-index l.all)) l.f
