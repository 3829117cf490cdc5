use Rattle.lagtool_jobs.proofs.VectorLemmas.{lines_grow}
use Rattle.lagtool_jobs.proofs.passing.push_vector_lines.Goals as goal

pub loop-index-preserved : goal.loop-index-preserved
loop-index-preserved c = lines_grow _ _ _ c.loop-index.index c.args.passed.now _ c.loop-index-test.true c.loop-index.invariant
    c.in_ok-push_vector_line.ensures
