use Rattle.lagworld.proofs.Common.{sym, ◌∙◌}
use Rattle.lagworld.proofs.StartLemmas.{two_of}
use Rattle.lagworld.proofs.start.both.Goals as goal

pub returns : goal.returns
returns c = let all = c.into_iter-rest.ensures.into_iter_gives in
    sym all.0 ∙ two_of _ _ _ c.in_ok-first.first c.in_ok-second.second all.1 c.in_ok-first.ensures.steps c.in_ok-second.ensures.steps
