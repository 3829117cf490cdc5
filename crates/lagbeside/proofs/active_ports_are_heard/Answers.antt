use Rattle.lagbeside.proofs.Heartbeat.{is_heard, is_silent_shortly}
use Rattle.lagbeside.proofs.active_ports_are_heard.Goals as goal

pub returns-clause-heard : goal.returns-clause-heard
returns-clause-heard g c = λ algorithm. is_heard (λ conv count place. g.F.Fn.post algorithm (conv, (count, tt)) place)

pub returns-clause-silent : goal.returns-clause-silent
returns-clause-silent g c = λ algorithm. is_silent_shortly (λ conv count place. g.F.Fn.post algorithm (conv, (count, tt)) place)
