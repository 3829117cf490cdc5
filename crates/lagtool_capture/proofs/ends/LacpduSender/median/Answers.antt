use Rattle.lagtool_capture.proofs.Common.{subst, sym, gaps_between, IsMedianOf}
use Rattle.lagtool_capture.proofs.EndLemmas.{end_median}
use Rattle.lagtool_capture.proofs.ends.LacpduSender.median.Goals as goal

pub returns-clause-of_times : goal.returns-clause-of_times
returns-clause-of_times c = λ s first later lt same.
    subst (IsMedianOf (gaps_between first later)) (sym c.median.ensures.by_counts) (end_median c.args.self.now s first later lt same)
