use Rattle.lagworld.proofs.Common.{subst, sym, ◌∙◌, WorldRepeats, model_side, world_state}
use Rattle.lagworld.proofs.Sides.{algorithms_of}
use Rattle.lagworld.proofs.ArrivingLemmas.{repeat_does}
use Rattle.lagworld.proofs.inner.Inner.repeat.Goals as goal

pub returns-clause-repeats : goal.returns-clause-repeats
returns-clause-repeats g c = let items = g.C.Cable.items in
    let limit = g.C.Cable.limit in
    let gives = algorithms_of g.F.Fn.post c.args.self.now.one.system.algorithm c.args.self.now.two.system.algorithm in
    let old = world_state items limit c.args.self.now in
    let ready = world_state items limit c.reserve_for_item.new.self in
    let lacpdu = world_state items limit c.receive_first.new.self in
    let comes = rw (c.in_ok-bytes.ensures.algorithm_one, c.in_ok-bytes.ensures.algorithm_two) at c.in-Some-receive_first.ensures.received in
    subst (λ s. WorldRepeats gives s c.args.cable old c.conclude.result (world_state items limit c.conclude.new.self))
    c.side_numbered-side.ensures
    (repeat_does gives (model_side c.side_numbered-side.result) c.args.cable c.link_index_of-index.result c.in-Some.head
    c.in-Some-receive_first.answer old ready lacpdu c.conclude.result _
    c.link_index_of-index.ensures.at c.in_ok-bytes.ensures.same (sym c.is_data.ensures ∙ c.if-is_data.false) c.in-Some.ensures comes
    c.conclude.ensures.concludes)
