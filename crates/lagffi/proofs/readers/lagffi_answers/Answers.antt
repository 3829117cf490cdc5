use Rattle.lagffi.proofs.Common.{ap, ◌∙◌, option_map, number_or_refused}
use Rattle.dataplane.specs.Notes.{answers_number}
use Rattle.lagffi.proofs.AskingLemmas.{asked_of_notes}
use Rattle.lagffi.proofs.readers.lagffi_answers.Goals as goal

pub returns : goal.returns
returns c = asked_of_notes _ _ c.in-Some.ensures.taken c.kept.ensures c.put.ensures
    (c.note_or_no_port-answer.ensures ∙ ap (λ note. number_or_refused 1 (option_map answers_number note)) c.of.ensures)
