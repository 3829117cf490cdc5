use Rattle.lagtool_jobs.proofs.Common.{[], arith, take, ◌++◌, ◌∷◌}
use Rattle.lagtool_jobs.proofs.ReportLemmas.{ends_line, line_done, reads_both, reads_rest, rest_length}
use Rattle.lagtool_jobs.proofs.scan.Scan.feed.Goals as goal

pub loop-n-preserved : goal.loop-n-preserved
loop-n-preserved c = let (done, split, reads, few) = c.loop-n.invariant in
    let rest = c.loop-n.rest.now in
    let n = c.in-Some.n in
    let found = c.in-Some.ensures in
    let e = c.in_ok-end_line.ensures in (
      done ++ (take n rest ++ 10 ∷ []),
      line_done c.args.piece.now done rest n split found.0.high found.1,
      reads_both _ _ _ done (take n rest ++ 10 ∷ []) reads (reads_both _ _ _ (take n rest) (10 ∷ []) c.in_ok-keep.ensures.reads
          (ends_line _ _ e.to_write e.lines e.faults e.line)),
      omega (arith, few, e.lines, c.in_ok-keep.ensures.lines, rest_length rest n found.0.high),
    )

pub returns-clause-reads : goal.returns-clause-reads
returns-clause-reads c = let (done, split, reads, few) = c.loop-n.invariant in
    reads_rest c.keep-2.result c.args.self.now c.loop-n.self c.keep-2.new.self c.args.piece.now done c.loop-n.rest.now split
    reads c.keep-2.ensures.reads
