use Rattle.lagsystem.proofs.Common.{Reply, Call}
use Rattle.lagsystem.proofs.Sound.{Step-sound, answers}
use Rattle.lagsystem.proofs.calls.System.tick.Goals as goal

pub invariant_of-self : goal.invariant_of-self
invariant_of-self g c =
    Step-sound (λ conv count place. g.F.Fn.post c.self.inside.inner.distributor.algorithm (conv, (count, tt)) place)
    _ Call.Tick Reply.Tick _ c.tick.ensures.step c.self.invariant

pub returns-clause-answers : goal.returns-clause-answers
returns-clause-answers g c = rw (← c.self.view_is) (answers _ _ _ _ _ c.tick.ensures.step c.self.invariant)
