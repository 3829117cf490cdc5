use Rattle.lagtool_capture.proofs.Common.{subst, sym, IsMedianOf}
use Rattle.lagtool_capture.proofs.GapLemmas.{median_is}
use Rattle.lagtool_capture.proofs.gaps.Gaps.median.Goals as goal

pub returns-clause-of_times : goal.returns-clause-of_times
returns-clause-of_times c = λ gaps lt e. subst (IsMedianOf gaps) (sym c.by_counts.ensures) (median_is c.args.self.now gaps lt e)
