use Rattle.law_host_runs.proofs.Doings.{keeps_agreement, keeps_window}
use Rattle.law_host_runs.proofs.calls_and_settings_keep_the_limits.Goals as goal

pub returns-clause-window : goal.returns-clause-window
returns-clause-window g c = λ algorithm. keeps_window (λ conv count place. g.F.Fn.post algorithm (conv, (count, tt)) place)

pub returns-clause-agreement : goal.returns-clause-agreement
returns-clause-agreement g c = λ algorithm. keeps_agreement (λ conv count place. g.F.Fn.post algorithm (conv, (count, tt)) place)
