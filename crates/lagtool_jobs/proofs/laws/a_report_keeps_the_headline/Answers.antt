use Rattle.lagtool_jobs.proofs.Common.{side_of}
use Rattle.lagworld.proofs.Agreeing.{never_differs}
use Rattle.lagtool_jobs.proofs.HeadlineLemmas.{flow_in_order}
use Rattle.lagtool_jobs.proofs.laws.a_report_keeps_the_headline.Goals as goal

pub returns-clause-agreements : goal.returns-clause-agreements
returns-clause-agreements c = λ j cable sound. never_differs j cable sound

pub returns-clause-flows : goal.returns-clause-flows
returns-clause-flows c = λ j s agg conv sound free. flow_in_order j (side_of s) agg conv sound free
