use Rattle.lagsystem.proofs.OneAnswer.{one_answer, one_run}
use Rattle.lagsystem.proofs.OneForcing.{one_forcing}
use Rattle.lagsystem.proofs.laws.each_call_has_one_answer.Goals as goal

pub returns-clause-call : goal.returns-clause-call
returns-clause-call g c = λ algorithm. one_answer (λ conv count place. g.F.Fn.post algorithm (conv, (count, tt)) place)

pub returns-clause-run : goal.returns-clause-run
returns-clause-run g c = λ algorithm. one_run (λ conv count place. g.F.Fn.post algorithm (conv, (count, tt)) place)

pub returns-clause-forcing : goal.returns-clause-forcing
returns-clause-forcing g c = λ algorithm. one_forcing (λ conv count place. g.F.Fn.post algorithm (conv, (count, tt)) place)
