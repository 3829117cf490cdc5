use Rattle.lagtool_jobs.proofs.ReportLemmas.{ends_by}
use Rattle.lagtool_jobs.proofs.checking.check_watched.Goals as goal

pub returns : goal.returns
returns g c = ends_by _ _ _ _ _ _ c.check_all.result c.check_all.ensures.ok c.check_all.ensures.err c.check_all.ensures.cause
