use Rattle.lagworld.proofs.Common.{subst, sym, ◌==◌, ◌∙◌, link_state, link_states, item_value, IsReservedAt, model_side, port_at}
use Rattle.lagworld.proofs.Putting.{place_seen, put_there, put_nowhere}
use Rattle.lagworld.proofs.sending.put_on_port.Goals as goal

pub send_at-requires-clause-reserved : goal.send_at-requires-clause-reserved
send_at-requires-clause-reserved g c = let s = model_side c.args.side in
    subst (λ o. IsReservedAt g.C.Cable.reserved s o c.args.links.now.items)
    (place_seen (link_state g.C.Cable.items g.C.Cable.limit) (λ l. port_at s l == c.args.port) c.args.links.now.items
    ∙ sym c.in-Some.ensures.index) c.requires

pub returns-in-Some : goal.returns-in-Some
returns-in-Some g c = let s = model_side c.args.side in
    let x = put_there s c.args.port (item_value c.args.item) (link_states g.C.Cable.items g.C.Cable.limit c.args.links.now.items)
    (link_states g.C.Cable.items g.C.Cable.limit c.send_at.new.links.items) c.send_at.result c.in-Some.index
    (place_seen (link_state g.C.Cable.items g.C.Cable.limit) (λ l. port_at s l == c.args.port) c.args.links.now.items
    ∙ sym c.in-Some.ensures.index) c.send_at.ensures in
    record { put = x.0; accepted = x.1 }

pub returns-in-None : goal.returns-in-None
returns-in-None g c = let s = model_side c.args.side in
    let x = put_nowhere s c.args.port (item_value c.args.item) (link_states g.C.Cable.items g.C.Cable.limit c.args.links.now.items)
    (place_seen (link_state g.C.Cable.items g.C.Cable.limit) (λ l. port_at s l == c.args.port) c.args.links.now.items
    ∙ sym c.in-None.ensures.index) in
    record { put = sym x.0; accepted = sym x.1 }
