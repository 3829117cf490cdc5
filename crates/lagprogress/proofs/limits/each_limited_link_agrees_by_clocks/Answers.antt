use Rattle.lagprogress.proofs.Common.{BothAreActive, OneIsActive}
use Rattle.lagprogress.proofs.LimitLemmas.{each_limited_link_agrees}
use Rattle.lagprogress.proofs.limits.each_limited_link_agrees_by_clocks.Goals as goal
use Rattle.lagprogress.proofs.Bundling.{both_meet, one_meets}

pub returns-clause-both : goal.returns-clause-both
returns-clause-both g c = λ one two. each_limited_link_agrees BothAreActive 323 _ (both_meet _)

pub returns-clause-one : goal.returns-clause-one
returns-clause-one g c = λ one two. each_limited_link_agrees OneIsActive 624 _ (one_meets _)
