use Rattle.lagworld.proofs.Common.{ap, option_map, slice_get, subst, ◌≡◌, Vec, Cabled, WorldDelivers, link_states, item_value, model_side, LinkState}
use Rattle.lagworld.proofs.Common.{towards, world_state}
use Rattle.lagworld.proofs.Sides.{algorithms_of}
use Rattle.lagworld.proofs.ArrivingLemmas.{deliver_does}
use Rattle.lagworld.proofs.inner.Inner.deliver.Goals as goal

pub returns-clause-delivers : goal.returns-clause-delivers
returns-clause-delivers g c = let items = g.C.Cable.items in
    let limit = g.C.Cable.limit in
    let gives = algorithms_of g.F.Fn.post c.args.self.now.one.system.algorithm c.args.self.now.two.system.algorithm in
    let side = model_side c.side_numbered-side.result in
    let old = world_state items limit c.args.self.now in
    let ready = world_state items limit c.reserve_for_item.new.self in
    let lacpdu = world_state items limit c.receive_first.new.self in
    let comes = rw (c.in_ok-bytes.ensures.algorithm_one, c.in_ok-bytes.ensures.algorithm_two) at c.in-Some-receive_first.ensures.received in
    let kept = ap (λ (ls : Vec (Cabled g.row.C.Denot)). link_states items limit ls.items) c.in-Some-receive_first.ensures.links in
    subst (λ s. WorldDelivers gives s c.args.cable old c.conclude.result (world_state items limit c.conclude.new.self))
    c.side_numbered-side.ensures
    (deliver_does gives side c.args.cable c.link_index_of-index.result c.in-Some.head c.in-Some-receive_first.answer
    (λ (l : LinkState). option_map item_value c.pop_first_at.result ≡ slice_get (towards side l) 0)
    (link_states items limit c.pop_first_at.new.links.items) old ready lacpdu c.conclude.result _
    c.link_index_of-index.ensures.at c.in_ok-bytes.ensures.same kept c.in-Some.ensures comes c.pop_first_at.ensures.taken
    c.conclude.ensures.concludes)
