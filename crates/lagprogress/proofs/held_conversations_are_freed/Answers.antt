use Rattle.lagprogress.proofs.Common.{BothAreActive, OneIsActive}
use Rattle.lagprogress.proofs.Freeing.{nothing_is_held}
use Rattle.lagprogress.proofs.held_conversations_are_freed.Goals as goal
use Rattle.lagprogress.proofs.Bundling.{one_meets, both_meet}

pub returns-clause-both : goal.returns-clause-both
returns-clause-both g c = λ one two. nothing_is_held BothAreActive 323 _ (both_meet _)

pub returns-clause-one : goal.returns-clause-one
returns-clause-one g c = λ one two. nothing_is_held OneIsActive 624 _ (one_meets _)
