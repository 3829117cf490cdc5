use Rattle.lagworld.proofs.Common.{Err, Ok, refl, ◌∙◌, model_side, half, world_state}
use Rattle.lagworld.proofs.Sides.{algorithms_of}
use Rattle.lagworld.specs.declared.reply.Reply.TheVariants as reply
use Rattle.lagworld.proofs.OfferLemmas.{offers_of, long_enough, same_number, taken_there}
use Rattle.lagworld.proofs.inner.Inner.offer_reserved.Goals as goal

pub returns-in-Err-clause-offers : goal.returns-in-Err-clause-offers
returns-in-Err-clause-offers g c = let mid = world_state g.C.Cable.items g.C.Cable.limit c.ask_offer.new.self in
    offers_of (algorithms_of g.F.Fn.post c.args.self.now.one.system.algorithm c.args.self.now.two.system.algorithm)
    (model_side c.args.side) c.args.agg c.args.octets.items c.ask_offer.result (Err c.in-Err.fault)
    (world_state g.C.Cable.items g.C.Cable.limit c.args.self.now) mid mid (reply.Refused c.in-Err.fault) c.in-Err.is
    (rw c.as_slice.ensures.value at c.ask_offer.ensures.assigns) (refl, refl)

pub returns-in-Ok-clause-offers : goal.returns-in-Ok-clause-offers
returns-in-Ok-clause-offers g c =
    offers_of (algorithms_of g.F.Fn.post c.args.self.now.one.system.algorithm c.args.self.now.two.system.algorithm)
    (model_side c.args.side) c.args.agg c.args.octets.items c.ask_offer.result (Ok c.in-Ok.port)
    (world_state g.C.Cable.items g.C.Cable.limit c.args.self.now) (world_state g.C.Cable.items g.C.Cable.limit c.ask_offer.new.self)
    (world_state g.C.Cable.items g.C.Cable.limit c.send_offered.new.self) c.send_offered.result c.in-Ok.is
    (rw c.as_slice.ensures.value at c.ask_offer.ensures.assigns) c.send_offered.ensures.offered

pub send_offered-requires-clause-conversation : goal.send_offered-requires-clause-conversation
send_offered-requires-clause-conversation g c =
    let old = half (model_side c.args.side) (world_state g.C.Cable.items g.C.Cable.limit c.args.self.now) in
    let mid = half (model_side c.args.side) (world_state g.C.Cable.items g.C.Cable.limit c.ask_offer.new.self) in
    let x = rw (c.as_slice.ensures.value, c.in-Ok.is) at c.ask_offer.ensures.assigns in
    c.requires.conversation (long_enough x.0) ∙ same_number c.args.octets.items old.state mid.state x.0.answers.conversations

pub send_offered-requires-clause-there : goal.send_offered-requires-clause-there
send_offered-requires-clause-there g c = let x = rw (c.as_slice.ensures.value, c.in-Ok.is) at c.ask_offer.ensures.assigns in
    taken_there x.0 (c.requires.sound.kept (model_side c.args.side)) c.args.conv c.requires.below
