use Rattle.std.proofs.Common.{refl}
use Rattle.lagffi.proofs.AskingLemmas.{called_with_notes}
use Rattle.lagffi.proofs.calls.lagffi_restart.Goals as goal

pub returns : goal.returns
returns c = called_with_notes _ _ c.in-Some.ensures.taken c.kept_mut.ensures.value c.put.ensures
    (c.restart.ensures.answers, c.restart.ensures.shows, c.nobody_asked.ensures, refl)
