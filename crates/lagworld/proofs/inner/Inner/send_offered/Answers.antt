use Rattle.lagworld.proofs.Common.{ap, subst, sym, ◌∙◌, ◌≡◌, link_states, AreReserved, model_side, WorldState, is_accepted, link_index, put_on_port}
use Rattle.lagworld.proofs.Common.{with_links, world_state}
use Rattle.lagworld.proofs.OfferLemmas.{any_reserved, frame_offered}
use Rattle.lagworld.proofs.inner.Inner.send_offered.Goals as goal

pub put_on_port-accepted-requires : goal.put_on_port-accepted-requires
put_on_port-accepted-requires g c = let ls = c.record_frame_sent-serial.new.self.links.items in
    any_reserved g.C.Cable.reserved (model_side c.args.side) ls
    (subst (λ v. AreReserved g.C.Cable.reserved (model_side c.args.side) v.items)
    (sym c.record_frame_sent-serial.ensures.links) c.requires.place)
    (link_index (model_side c.args.side) c.args.port (link_states g.C.Cable.items g.C.Cable.limit ls))

pub returns-clause-offered : goal.returns-clause-offered
returns-clause-offered g c = let s = model_side c.args.side in
    let old = world_state g.C.Cable.items g.C.Cable.limit c.args.self.now in
    let counted = world_state g.C.Cable.items g.C.Cable.limit c.record_frame_sent-serial.new.self in
    let links = link_states g.C.Cable.items g.C.Cable.limit c.put_on_port-accepted.new.links.items in
    let same : counted.links ≡ old.links = ap (λ v. link_states g.C.Cable.items g.C.Cable.limit v.items)
    c.record_frame_sent-serial.ensures.links in
    frame_offered s c.args.agg c.args.octets.items c.args.port c.args.conv c.record_frame_sent-serial.result c.side_number.result
    c.put_on_port-accepted.result links old (with_links counted links)
    c.requires.conversation c.requires.there c.record_frame_sent-serial.ensures.serial c.side_number.ensures
    (c.put_on_port-accepted.ensures.put ∙ ap (put_on_port s c.args.port _) same)
    (c.put_on_port-accepted.ensures.accepted ∙ ap (is_accepted s c.args.port) same)
    (ap (λ (j : WorldState). with_links j links) c.record_frame_sent-serial.ensures.sent)
