use Rattle.lagprogress.proofs.Common.{BothAreActive, OneIsActive}
use Rattle.lagprogress.proofs.Keyed.{key_together}
use Rattle.lagprogress.proofs.sharing.each_key_is_in_one_aggregator_by_clocks.Goals as goal
use Rattle.lagprogress.proofs.Bundling.{both_meet, one_meets}

pub returns-clause-both : goal.returns-clause-both
returns-clause-both g c = λ one two. key_together BothAreActive 323 _ (both_meet _)

pub returns-clause-one : goal.returns-clause-one
returns-clause-one g c = λ one two. key_together OneIsActive 624 _ (one_meets _)
