use Rattle.findings.specs.Knows.{Takes}
use Rattle.lagtypes.proofs.WritingLemmas.{SoFar}
use Rattle.findings.proofs.observing.see_each.Given as goal

abbrev pub invariant-loop-end : goal.invariant-loop-end
invariant-loop-end l = SoFar (Takes l.now) l.end-index l.initial.ends l.ends
