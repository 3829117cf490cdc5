use Rattle.lagprogress.proofs.Common.{BothAreActive, OneIsActive, LateRounds, SeveralRounds, most_ticks}
use Rattle.lagprogress.proofs.Bundling.{each_link_comes_up, one_meets, both_meet}
use Rattle.lagprogress.proofs.SeveralUp.{both_meet_several, one_meets_several}
use Rattle.lagprogress.proofs.clocks.each_link_comes_up_by_clocks.Goals as goal

pub returns-clause-both : goal.returns-clause-both
returns-clause-both g c = λ one two. each_link_comes_up LateRounds 1 BothAreActive 323 _ (both_meet _)

pub returns-clause-one : goal.returns-clause-one
returns-clause-one g c = λ one two. each_link_comes_up LateRounds 1 OneIsActive 624 _ (one_meets _)

pub returns-clause-several_both : goal.returns-clause-several_both
returns-clause-several_both g c = λ one two. each_link_comes_up SeveralRounds most_ticks BothAreActive 365 _ (both_meet_several _)

pub returns-clause-several_one : goal.returns-clause-several_one
returns-clause-several_one g c = λ one two. each_link_comes_up SeveralRounds most_ticks OneIsActive 649 _ (one_meets_several _)
