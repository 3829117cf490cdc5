use Rattle.lagprogress.proofs.Passing.{deliver_processes, emit_sends}
use Rattle.lagprogress.proofs.lacpdus_pass_cables.Goals as goal

pub returns-clause-sent : goal.returns-clause-sent
returns-clause-sent g c = λ one two. emit_sends _

pub returns-clause-processed : goal.returns-clause-processed
returns-clause-processed g c = λ one two. deliver_processes _
