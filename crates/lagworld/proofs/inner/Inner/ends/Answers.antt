use Rattle.lagworld.proofs.Common.{sym, ◌∙◌, element_numbered, world_state}
use Rattle.lagworld.proofs.Finding.{ends_there, no_ends, pair}
use Rattle.lagworld.proofs.inner.Inner.ends.Goals as goal

pub returns-then-not-has_cable : goal.returns-then-not-has_cable
returns-then-not-has_cable g c = let j = world_state g.C.Cable.items g.C.Cable.limit c.args.self.now in
    sym (no_ends _ (element_numbered j.links c.args.cable) (sym c.has_cable.ensures ∙ c.if-not-has_cable.true))

pub returns : goal.returns
returns g c = let told = c.link_status-status.result in
    ends_there pair (world_state g.C.Cable.items g.C.Cable.limit c.args.self.now).links c.args.cable c.link_index_of.result told.one told.two
    told.whole c.link_index_of.ensures.at c.link_status-status.ensures
