use Rattle.lagworld.proofs.Common.{link_state, joined}
use Rattle.lagworld.proofs.LineLemmas.{written_at}
use Rattle.lagworld.proofs.link.join_at.Goals as goal

pub returns : goal.returns
returns g c = written_at (link_state g.C.Cable.items g.C.Cable.limit) joined c.args.links.now.items c.args.index c.index_mut-link.result.now
    c.join.new.self c.requires c.index_mut-link.ensures.value c.join.ensures
