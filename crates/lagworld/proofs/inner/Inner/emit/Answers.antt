use Rattle.lagworld.proofs.Common.{ap, subst, WorldEmits, model_side, with_links, world_state}
use Rattle.lagworld.proofs.Sides.{algorithms_of}
use Rattle.lagworld.proofs.EmitLemmas.{stays_so}
use Rattle.lagworld.proofs.inner.Inner.emit.Goals as goal

pub returns-clause-emits : goal.returns-clause-emits
returns-clause-emits g c =
    let gives = algorithms_of g.F.Fn.post c.args.self.now.one.system.algorithm c.args.self.now.two.system.algorithm in
    let old = world_state g.C.Cable.items g.C.Cable.limit c.args.self.now in
    let new = world_state g.C.Cable.items g.C.Cable.limit c.emit_due.new.self in
    subst (λ s. WorldEmits gives s c.args.port old c.emit_due.result new) c.side_numbered-side.ensures
    (subst (λ j. WorldEmits gives (model_side c.side_numbered-side.result) c.args.port j c.emit_due.result new)
    (ap (with_links old) c.reserve_on.ensures.same) c.emit_due.ensures.emits)

pub returns-in_err-reserve_on-clause-unchanged : goal.returns-in_err-reserve_on-clause-unchanged
returns-in_err-reserve_on-clause-unchanged g c = let old = world_state g.C.Cable.items g.C.Cable.limit c.args.self.now in
    stays_so c.from_residual-in_err-reserve_on.result _ old (ap (with_links old) c.reserve_on.ensures.same)
