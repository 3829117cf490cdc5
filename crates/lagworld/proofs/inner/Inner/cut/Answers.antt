use Rattle.lagworld.proofs.Common.{ap, refl, with_links, world_state}
use Rattle.lagworld.proofs.LineLemmas.{on_place}
use Rattle.lagworld.proofs.inner.Inner.cut.Goals as goal

pub returns-clause-cut : goal.returns-clause-cut
returns-clause-cut g c = let old = world_state g.C.Cable.items g.C.Cable.limit c.args.self.now in
    on_place c.args.cable c.link_index_of-index.result _ _ old.links c.link_index_of-index.ensures.at
    (λ l e. (refl, ap (with_links old) e)) c.cut_at.ensures
