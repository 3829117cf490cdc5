use Rattle.lagprogress.proofs.Keyed.{calls_keep_whole, reached_whole, start_whole}
use Rattle.lagprogress.proofs.sharing.groups_stay_whole.Goals as goal

pub returns-clause-first : goal.returns-clause-first
returns-clause-first g c = start_whole

pub returns-clause-calls : goal.returns-clause-calls
returns-clause-calls g c = λ algorithm. calls_keep_whole _

pub returns-clause-reached : goal.returns-clause-reached
returns-clause-reached g c = λ one two. reached_whole _
