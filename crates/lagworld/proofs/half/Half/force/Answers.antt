use Rattle.lagworld.proofs.Common.{List, ap, half_state, FlowValue, HalfState}
use Rattle.lagworld.proofs.Sides.{gives_of}
use Rattle.lagworld.proofs.OfferLemmas.{freed, not_freed}
use Rattle.lagworld.proofs.half.Half.force.Goals as goal

abbrev flows_in : HalfState → List (List FlowValue) → HalfState
flows_in h flows = record h { flows = flows }

pub returns-in-Ok-clause-forces : goal.returns-in-Ok-clause-forces
returns-in-Ok-clause-forces g c = freed (gives_of g.F.Fn.post c.args.self.now.system.algorithm) c.args.agg c.args.conv
    c.ask_force.result _ (half_state c.args.self.now) (half_state c.ask_force.new.self) _ c.in-Ok.is c.ask_force.ensures.frees
    (ap (flows_in (half_state c.ask_force.new.self)) c.record_force.ensures)

pub returns-in-Err-clause-forces : goal.returns-in-Err-clause-forces
returns-in-Err-clause-forces g c = not_freed (gives_of g.F.Fn.post c.args.self.now.system.algorithm) c.args.agg c.args.conv
    c.ask_force.result c.in-Err.fault (half_state c.args.self.now) (half_state c.ask_force.new.self) c.in-Err.is
    c.ask_force.ensures.frees
