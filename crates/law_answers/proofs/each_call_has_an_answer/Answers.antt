use Rattle.law_answers.proofs.Each.{each_call, each_list}
use Rattle.law_answers.proofs.each_call_has_an_answer.Goals as goal

pub returns-clause-call : goal.returns-clause-call
returns-clause-call g c = λ algorithm. each_call (λ conv count place. g.F.Fn.post algorithm (conv, (count, tt)) place)

pub returns-clause-list : goal.returns-clause-list
returns-clause-list g c = λ algorithm. each_list (λ conv count place. g.F.Fn.post algorithm (conv, (count, tt)) place)
