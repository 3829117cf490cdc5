use Rattle.lagsystem.proofs.QuietRuns.{quiet_run}
use Rattle.lagsystem.proofs.laws.ticks_only_count_until_due.Goals as goal

pub returns : goal.returns
returns g c = λ algorithm. quiet_run (λ conv count place. g.F.Fn.post algorithm (conv, (count, tt)) place)
