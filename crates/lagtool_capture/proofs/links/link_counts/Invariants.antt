use Rattle.lagtool_capture.proofs.Common.{drop, ◌≡◌, counted_from, link_counts}
use Rattle.lagtool_capture.proofs.links.link_counts.Given as goal

abbrev pub invariant-loop-end : goal.invariant-loop-end
invariant-loop-end l = counted_from l.counts l.all l.until (drop l.end-index l.all) ≡ link_counts l.all
