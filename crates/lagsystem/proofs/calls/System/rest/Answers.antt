use Rattle.lagsystem.proofs.Common.{inner_state}
use Rattle.lagsystem.proofs.LeavingLemmas.{rests_if_ok, rests_sound}
use Rattle.lagsystem.proofs.calls.System.rest.Goals as goal

pub invariant_of-self : goal.invariant_of-self
invariant_of-self g c =
    rests_sound (λ conv count place. g.F.Fn.post c.self.inside.inner.distributor.algorithm (conv, (count, tt)) place) c.args.agg
    c.args.conv (inner_state c.self.inside.inner) c.rest.result (inner_state c.rest.new.self) c.rest.ensures.gives c.self.invariant

pub returns-clause-gives : goal.returns-clause-gives
returns-clause-gives g c = rw (← c.self.view_is) c.rest.ensures.gives

pub returns-clause-forces : goal.returns-clause-forces
returns-clause-forces g c = rw (← c.self.view_is)
    (rests_if_ok (λ conv count place. g.F.Fn.post c.self.inside.inner.distributor.algorithm (conv, (count, tt)) place) c.args.agg
    c.args.conv (inner_state c.self.inside.inner) c.rest.result (inner_state c.rest.new.self) c.rest.ensures.gives c.self.invariant)
