use Rattle.dataplane.proofs.Kept.{behind, first, kept}
use Rattle.dataplane.proofs.active.laws.each_call_keeps_one_aggregator.Goals as goal

pub returns-clause-first : goal.returns-clause-first
returns-clause-first g c = first

pub returns-clause-kept : goal.returns-clause-kept
returns-clause-kept g c = λ algorithm. kept (λ conv count place. g.F.Fn.post algorithm (conv, (count, tt)) place)

pub returns-clause-behind : goal.returns-clause-behind
returns-clause-behind g c = behind
