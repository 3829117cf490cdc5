use Rattle.lagworld.proofs.Common.{subst, WorldLoses, LosesFrom, link_states, model_side, towards, with_links, world_state}
use Rattle.lagworld.proofs.LineLemmas.{on_place}
use Rattle.lagworld.proofs.LoseLemmas.{lost_there}
use Rattle.lagworld.proofs.inner.Inner.lose.Goals as goal

pub returns-clause-loses : goal.returns-clause-loses
returns-clause-loses g c = let s = model_side c.side_numbered-side.result in
    let i = c.link_index_of-index.result in
    let old = world_state g.C.Cable.items g.C.Cable.limit c.args.self.now in
    let links = link_states g.C.Cable.items g.C.Cable.limit c.lose_at.new.links.items in
    let r = c.lost_reply.result in
    subst (λ s. WorldLoses s c.args.cable old r (with_links old links)) c.side_numbered-side.ensures
    (on_place c.args.cable i (λ l. LosesFrom s i l (towards s l) old r (with_links old links))
    (λ i l. LosesFrom s i l (towards s l) old r (with_links old links)) old.links c.link_index_of-index.ensures.at (λ l x. x)
    (lost_there s i r c.lose_at.result old links c.lost_reply.ensures c.lose_at.ensures))
