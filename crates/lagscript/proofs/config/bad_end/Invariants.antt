use Rattle.lagscript.proofs.Common.{None, ◌≡◌, first_below, has_bad_end}
use Rattle.lagscript.proofs.config.bad_end.Given as goal

abbrev pub invariant-loop-index : goal.invariant-loop-index
invariant-loop-index l = first_below (has_bad_end l.first l.second l.cables) l.index ≡ None
