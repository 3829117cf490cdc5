use Rattle.dataplane.proofs.Common.{take, AllByRecursion, IsBack}
use Rattle.dataplane.proofs.resuming.first_not_back.Given as goal

abbrev pub invariant-loop-one : goal.invariant-loop-one
invariant-loop-one g l = AllByRecursion (IsBack l.system.state) (take l.one-index l.saved)
