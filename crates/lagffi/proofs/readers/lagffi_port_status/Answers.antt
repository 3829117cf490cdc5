use Rattle.lagffi.proofs.Common.{ap, ◌∙◌, port_status_or_no_port}
use Rattle.lagffi.proofs.AskingLemmas.{asked}
use Rattle.lagffi.proofs.readers.lagffi_port_status.Goals as goal

pub returns : goal.returns
returns c = asked _ _ c.in-Some.ensures.taken c.put.ensures
    (c.port_status_or_no_port-answer.ensures ∙ ap port_status_or_no_port c.port_status.ensures.is)
