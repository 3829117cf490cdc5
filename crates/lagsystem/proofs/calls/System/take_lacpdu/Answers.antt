use Rattle.lagsystem.proofs.Common.{Ok, Reply, Call, TookLacpdu}
use Rattle.lagsystem.proofs.TakingLemmas.{taken_promise, taken_sound}
use Rattle.lagsystem.proofs.calls.System.take_lacpdu.Goals as goal

pub invariant_of-self : goal.invariant_of-self
invariant_of-self g c = taken_sound
    (λ conv count place. g.F.Fn.post c.self.inside.inner.distributor.algorithm (conv, (count, tt)) place) c.take_lacpdu.result
    _ (Call.Receive c.args.port c.args.frame.now) (Reply.Receive (Ok TookLacpdu)) _ c.take_lacpdu.ensures.step c.take_lacpdu.ensures.other
    c.self.invariant

pub returns-clause-taken : goal.returns-clause-taken
returns-clause-taken g c = rw (← c.self.view_is) (taken_promise _ c.take_lacpdu.result _ (Call.Receive c.args.port c.args.frame.now)
    (Reply.Receive (Ok TookLacpdu)) _ c.take_lacpdu.ensures.step c.self.invariant)

pub returns-clause-each : goal.returns-clause-each
returns-clause-each g c = rw (← c.self.view_is) c.take_lacpdu.ensures.each
