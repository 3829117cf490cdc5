use Rattle.lagprogress.proofs.Common.{BothAreActive, OneIsActive}
use Rattle.lagprogress.proofs.BesideCutOffs.{none_is_held_beside_by_hosts}
use Rattle.lagprogress.proofs.Freeing.{none_is_held_on_ends, nothing_is_held_by_hosts}
use Rattle.lagprogress.proofs.HostLoops.{asking_in_vain_is_draining, round_is_draining}
use Rattle.lagprogress.proofs.hosting.held_conversations_are_freed_by_hosts.Goals as goal
use Rattle.lagprogress.proofs.Bundling.{one_meets, both_meet}

pub returns-clause-ends_both : goal.returns-clause-ends_both
returns-clause-ends_both g c = λ one two. none_is_held_on_ends BothAreActive 323 _ (both_meet _)

pub returns-clause-ends_one : goal.returns-clause-ends_one
returns-clause-ends_one g c = λ one two. none_is_held_on_ends OneIsActive 624 _ (one_meets _)

pub returns-clause-round : goal.returns-clause-round
returns-clause-round g c = λ one two. round_is_draining _

pub returns-clause-asking : goal.returns-clause-asking
returns-clause-asking g c = λ one two. asking_in_vain_is_draining _

pub returns-clause-all_both : goal.returns-clause-all_both
returns-clause-all_both g c = λ one two. nothing_is_held_by_hosts BothAreActive 323 _ (both_meet _)

pub returns-clause-all_one : goal.returns-clause-all_one
returns-clause-all_one g c = λ one two. nothing_is_held_by_hosts OneIsActive 624 _ (one_meets _)

pub returns-clause-beside : goal.returns-clause-beside
returns-clause-beside g c = λ one two. none_is_held_beside_by_hosts _
