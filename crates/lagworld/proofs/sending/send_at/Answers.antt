use Rattle.lagworld.proofs.Common.{link_state, item_value, model_side, accepts, sent_on}
use Rattle.lagworld.proofs.Putting.{sent_at}
use Rattle.lagworld.proofs.sending.send_at.Goals as goal

pub returns : goal.returns
returns g c = sent_at (link_state g.C.Cable.items g.C.Cable.limit) (sent_on (model_side c.args.side) (item_value c.args.item))
    (accepts (model_side c.args.side)) c.args.links.now.items c.args.index
    c.index_mut-link.result.now c.send.new.self c.send.result c.requires.within c.index_mut-link.ensures.value
    c.send.ensures.sent c.send.ensures.accepted
