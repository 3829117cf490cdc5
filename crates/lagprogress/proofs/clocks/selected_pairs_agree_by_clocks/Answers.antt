use Rattle.lagprogress.proofs.Common.{BothAreActive, OneIsActive}
use Rattle.lagprogress.proofs.Pairing.{selected_pairs_agree, selected_pairs_come_up}
use Rattle.lagprogress.proofs.clocks.selected_pairs_agree_by_clocks.Goals as goal
use Rattle.lagprogress.proofs.Bundling.{both_meet, one_meets}

pub returns-clause-up_both : goal.returns-clause-up_both
returns-clause-up_both g c = λ one two. selected_pairs_come_up BothAreActive 323 _ (both_meet _)

pub returns-clause-up_one : goal.returns-clause-up_one
returns-clause-up_one g c = λ one two. selected_pairs_come_up OneIsActive 624 _ (one_meets _)

pub returns-clause-both : goal.returns-clause-both
returns-clause-both g c = λ one two. selected_pairs_agree BothAreActive 323 _ (both_meet _)

pub returns-clause-one : goal.returns-clause-one
returns-clause-one g c = λ one two. selected_pairs_agree OneIsActive 624 _ (one_meets _)
