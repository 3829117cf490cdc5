use Rattle.lagworld.proofs.Common.{is_some, slice_get, link_state, model_side, towards, without_first}
use Rattle.lagworld.proofs.Putting.{sent_at}
use Rattle.lagworld.proofs.losing.lose_at.Goals as goal

pub returns : goal.returns
returns g c = sent_at (link_state g.C.Cable.items g.C.Cable.limit) (without_first (model_side c.args.side))
    (λ l. is_some (slice_get (towards (model_side c.args.side) l) 0)) c.args.links.now.items c.args.index
    c.index_mut-link.result.now c.lose.new.self c.lose.result c.requires c.index_mut-link.ensures.value
    c.lose.ensures.rest c.lose.ensures.lost
