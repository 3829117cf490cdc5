use Rattle.lagbeside.proofs.HostWaits.{Host-waits}
use Rattle.lagbeside.proofs.Waits.{Step-waits, first_waits}
use Rattle.lagbeside.proofs.waits_are_short.Goals as goal

pub returns-clause-first : goal.returns-clause-first
returns-clause-first g c = first_waits

pub returns-clause-kept : goal.returns-clause-kept
returns-clause-kept g c = λ algorithm. Step-waits (λ conv count place. g.F.Fn.post algorithm (conv, (count, tt)) place)

pub returns-clause-hosts : goal.returns-clause-hosts
returns-clause-hosts g c = λ algorithm. Host-waits (λ conv count place. g.F.Fn.post algorithm (conv, (count, tt)) place)
