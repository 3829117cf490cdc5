use Rattle.lagsystem.proofs.StillDueLemmas.{row_is_answer, row_is_offer}
use Rattle.lagsystem.proofs.laws.rows_name_the_answer.Goals as goal

pub returns-clause-conversation : goal.returns-clause-conversation
returns-clause-conversation g c = λ algorithm. row_is_answer (λ conv count place. g.F.Fn.post algorithm (conv, (count, tt)) place)

pub returns-clause-frame : goal.returns-clause-frame
returns-clause-frame g c = λ algorithm. row_is_offer (λ conv count place. g.F.Fn.post algorithm (conv, (count, tt)) place)
