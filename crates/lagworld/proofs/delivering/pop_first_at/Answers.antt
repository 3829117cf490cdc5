use Rattle.lagworld.proofs.Common.{option_map, slice_get, ◌≡◌, link_state, item_value, model_side, LinkState, towards, without_first}
use Rattle.lagworld.proofs.ArrivingLemmas.{taken_at, still_reserved}
use Rattle.lagworld.proofs.delivering.pop_first_at.Goals as goal

pub returns-clause-taken : goal.returns-clause-taken
returns-clause-taken g c = taken_at (link_state g.C.Cable.items g.C.Cable.limit) (without_first (model_side c.args.side))
    (λ (l : LinkState). option_map item_value c.pop_first.result ≡ slice_get (towards (model_side c.args.side) l) 0)
    c.args.links.now.items c.args.index c.index_mut-link.result.now c.pop_first.new.self c.requires c.index_mut-link.ensures.value
    c.pop_first.ensures.first c.pop_first.ensures.rest

pub returns-clause-reserved : goal.returns-clause-reserved
returns-clause-reserved g c =
    λ p h. still_reserved g.C.Cable.items g.C.Cable.limit g.C.Cable.reserved (model_side c.args.side) p c.args.links.now.items c.args.index
    c.index_mut-link.result.now c.pop_first.new.self
    c.requires c.index_mut-link.ensures.value c.pop_first.ensures.rest c.pop_first.ensures.reserved h
