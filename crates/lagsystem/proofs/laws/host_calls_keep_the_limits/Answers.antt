use Rattle.lagsystem.proofs.HostCallLemmas.{host_agreement, host_window}
use Rattle.lagsystem.proofs.laws.host_calls_keep_the_limits.Goals as goal

pub returns-clause-window : goal.returns-clause-window
returns-clause-window g c = λ algorithm. host_window (λ conv count place. g.F.Fn.post algorithm (conv, (count, tt)) place)

pub returns-clause-agreement : goal.returns-clause-agreement
returns-clause-agreement g c = λ algorithm. host_agreement (λ conv count place. g.F.Fn.post algorithm (conv, (count, tt)) place)
