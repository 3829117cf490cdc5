use Rattle.lagworld.proofs.Common.{ap, subst, sym, ◌==◌, ◌∙◌, link_state, IsReservedAt, model_side, link_index, port_at}
use Rattle.lagworld.proofs.Putting.{place_seen}
use Rattle.lagworld.proofs.sending.reserve_on.Goals as goal

pub returns-in_ok-reserve_at-in-Some-clause-ok : goal.returns-in_ok-reserve_at-in-Some-clause-ok
returns-in_ok-reserve_at-in-Some-clause-ok g c = let s = model_side c.args.side in
    subst (λ o. IsReservedAt g.C.Cable.reserved s o c.reserve_at.new.links.items)
    (sym (ap (link_index s c.args.port) c.reserve_at.ensures.same
    ∙ place_seen (link_state g.C.Cable.items g.C.Cable.limit) (λ l. port_at s l == c.args.port) c.args.links.now.items
    ∙ sym c.in-Some.ensures.index))
    c.in_ok-reserve_at-in-Some.ensures.ok

pub returns-in-None-clause-ok : goal.returns-in-None-clause-ok
returns-in-None-clause-ok g c = let s = model_side c.args.side in
    subst (λ o. IsReservedAt g.C.Cable.reserved s o c.args.links.now.items)
    (sym (place_seen (link_state g.C.Cable.items g.C.Cable.limit) (λ l. port_at s l == c.args.port) c.args.links.now.items
    ∙ sym c.in-None.ensures.index)) tt
