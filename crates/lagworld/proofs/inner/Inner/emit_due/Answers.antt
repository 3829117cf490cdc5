use Rattle.lagworld.proofs.Common.{Err, None, Ok, Some, ap, refl, ◌∙◌, model_side, world_state}
use Rattle.lagworld.proofs.Sides.{algorithms_of}
use Rattle.lagworld.specs.declared.reply.Reply.TheVariants as reply
use Rattle.lagworld.proofs.EmitLemmas.{emits_of, frame_of}
use Rattle.lagworld.proofs.inner.Inner.emit_due.Goals as goal

pub returns-in-Err-clause-emits : goal.returns-in-Err-clause-emits
returns-in-Err-clause-emits g c = let mid = world_state g.C.Cable.items g.C.Cable.limit c.transmit.new.self in
    emits_of (algorithms_of g.F.Fn.post c.args.self.now.one.system.algorithm c.args.self.now.two.system.algorithm)
    (model_side c.args.side) c.args.port c.transmit.result (Err c.in-Err.fault) (world_state g.C.Cable.items g.C.Cable.limit c.args.self.now)
    mid mid (reply.Refused c.in-Err.fault) c.in-Err.is c.transmit.ensures.transmits (refl, refl)

pub returns-in-Ok-None-clause-emits : goal.returns-in-Ok-None-clause-emits
returns-in-Ok-None-clause-emits g c = let mid = world_state g.C.Cable.items g.C.Cable.limit c.transmit.new.self in
    emits_of (algorithms_of g.F.Fn.post c.args.self.now.one.system.algorithm c.args.self.now.two.system.algorithm)
    (model_side c.args.side) c.args.port c.transmit.result (Ok None) (world_state g.C.Cable.items g.C.Cable.limit c.args.self.now)
    mid mid reply.Nothing (c.in-Ok-None.is ∙ ap Ok c.in-Ok-None.field-0-is) c.transmit.ensures.transmits (refl, refl)

pub returns-in-Ok-Some-clause-emits : goal.returns-in-Ok-Some-clause-emits
returns-in-Ok-Some-clause-emits g c =
    emits_of (algorithms_of g.F.Fn.post c.args.self.now.one.system.algorithm c.args.self.now.two.system.algorithm)
    (model_side c.args.side) c.args.port c.transmit.result (Ok (Some c.in-Ok-Some.frame))
    (world_state g.C.Cable.items g.C.Cable.limit c.args.self.now)
    (world_state g.C.Cable.items g.C.Cable.limit c.transmit.new.self) (world_state g.C.Cable.items g.C.Cable.limit c.send.new.self)
    c.send.result (c.in-Ok-Some.is ∙ ap Ok c.in-Ok-Some.field-0-is) c.transmit.ensures.transmits c.send.ensures.emitted

pub send-requires-clause-sent : goal.send-requires-clause-sent
send-requires-clause-sent g c =
    frame_of (algorithms_of g.F.Fn.post c.args.self.now.one.system.algorithm c.args.self.now.two.system.algorithm)
    (model_side c.args.side) c.args.port c.transmit.result c.in-Ok-Some.frame (world_state g.C.Cable.items g.C.Cable.limit c.args.self.now)
    (world_state g.C.Cable.items g.C.Cable.limit c.transmit.new.self) (c.in-Ok-Some.is ∙ ap Ok c.in-Ok-Some.field-0-is) c.transmit.ensures.transmits
