use Rattle.std.proofs.Common.{◌++◌, take}
use Rattle.lagstreams.proofs.SinkLemmas.{breaks_after, more_done, on_err, takes_more}
use Rattle.lagstreams.proofs.sink.Sink.put.Goals as goal

pub loop-rest-preserved : goal.loop-rest-preserved
loop-rest-preserved g c = let (done, split, taken) = c.loop-rest.invariant in
    let rest = c.loop-rest.rest.now in
    let n = c.in_ok-n.n in
    (done ++ take n rest, more_done _ done rest n split, takes_more _ _ _ _ _ _ taken c.in_ok-n.ensures.ok)

pub returns-in_err-n-clause-err : goal.returns-in_err-n-clause-err
returns-in_err-n-clause-err g c = let (done, split, taken) = c.loop-rest.invariant in
    let (kept, failed) = c.in_err-n.ensures.err in
    on_err _ (breaks_after _ _ _ _ _ done _ split taken kept failed)
