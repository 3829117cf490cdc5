use Rattle.lagprogress.proofs.Common.{BothAreActive, OneIsActive}
use Rattle.lagprogress.proofs.OfferedLemmas.{each_frame_arrives_by_hosts}
use Rattle.lagprogress.proofs.arriving.each_frame_arrives_by_hosts.Goals as goal
use Rattle.lagprogress.proofs.Bundling.{one_meets, both_meet}

pub returns-clause-both : goal.returns-clause-both
returns-clause-both g c = λ one two. each_frame_arrives_by_hosts BothAreActive 323 _ (both_meet _)

pub returns-clause-one : goal.returns-clause-one
returns-clause-one g c = λ one two. each_frame_arrives_by_hosts OneIsActive 624 _ (one_meets _)
