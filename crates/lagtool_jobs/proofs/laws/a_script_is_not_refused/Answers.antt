use Rattle.lagtool_jobs.proofs.HeadlineLemmas.{not_refused}
use Rattle.lagtool_jobs.proofs.laws.a_script_is_not_refused.Goals as goal

pub returns : goal.returns
returns c = λ text fault s h k. not_refused text fault s h k
