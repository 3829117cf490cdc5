use Rattle.lagprogress.proofs.Common.{RoundsBeside, BothAreActive, OneIsActive, LateRounds, SeveralBeside, SeveralRounds, most_ticks}
use Rattle.lagprogress.proofs.Bundling.{each_link_stays_agreed, each_link_stays_up, beside_once, one_meets, both_meet}
use Rattle.lagprogress.proofs.SeveralUp.{both_meet_several, one_meets_several}
use Rattle.lagprogress.proofs.clocks.each_link_stays_up_by_clocks.Goals as goal

pub returns-clause-up_both : goal.returns-clause-up_both
returns-clause-up_both g c = λ one two. each_link_stays_up LateRounds 1 BothAreActive 323 _ (both_meet _) RoundsBeside (beside_once _)

pub returns-clause-up_one : goal.returns-clause-up_one
returns-clause-up_one g c = λ one two. each_link_stays_up LateRounds 1 OneIsActive 624 _ (one_meets _) RoundsBeside (beside_once _)

pub returns-clause-agrees_both : goal.returns-clause-agrees_both
returns-clause-agrees_both g c = λ one two. each_link_stays_agreed LateRounds 1 BothAreActive 323 _ (both_meet _) RoundsBeside (beside_once _)

pub returns-clause-agrees_one : goal.returns-clause-agrees_one
returns-clause-agrees_one g c = λ one two. each_link_stays_agreed LateRounds 1 OneIsActive 624 _ (one_meets _) RoundsBeside (beside_once _)

pub returns-clause-several_up_both : goal.returns-clause-several_up_both
returns-clause-several_up_both g c = λ one two. each_link_stays_up LateRounds 1 BothAreActive 323 _ (both_meet _) SeveralBeside (λ l n old new h. h)

pub returns-clause-several_up_one : goal.returns-clause-several_up_one
returns-clause-several_up_one g c = λ one two. each_link_stays_up LateRounds 1 OneIsActive 624 _ (one_meets _) SeveralBeside (λ l n old new h. h)

pub returns-clause-several_agrees_both : goal.returns-clause-several_agrees_both
returns-clause-several_agrees_both g c = λ one two. each_link_stays_agreed LateRounds 1 BothAreActive 323 _ (both_meet _) SeveralBeside (λ l n old new h. h)

pub returns-clause-several_agrees_one : goal.returns-clause-several_agrees_one
returns-clause-several_agrees_one g c = λ one two. each_link_stays_agreed LateRounds 1 OneIsActive 624 _ (one_meets _) SeveralBeside (λ l n old new h. h)

pub returns-clause-throughout_up_both : goal.returns-clause-throughout_up_both
returns-clause-throughout_up_both g c = λ one two. each_link_stays_up SeveralRounds most_ticks BothAreActive 365 _ (both_meet_several _) SeveralBeside (λ l n old new h. h)

pub returns-clause-throughout_up_one : goal.returns-clause-throughout_up_one
returns-clause-throughout_up_one g c = λ one two. each_link_stays_up SeveralRounds most_ticks OneIsActive 649 _ (one_meets_several _) SeveralBeside (λ l n old new h. h)

pub returns-clause-throughout_agrees_both : goal.returns-clause-throughout_agrees_both
returns-clause-throughout_agrees_both g c = λ one two. each_link_stays_agreed SeveralRounds most_ticks BothAreActive 365 _ (both_meet_several _) SeveralBeside (λ l n old new h. h)

pub returns-clause-throughout_agrees_one : goal.returns-clause-throughout_agrees_one
returns-clause-throughout_agrees_one g c = λ one two. each_link_stays_agreed SeveralRounds most_ticks OneIsActive 649 _ (one_meets_several _) SeveralBeside (λ l n old new h. h)
