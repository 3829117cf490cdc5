use Rattle.dataplane.proofs.Common.{false, take, ◌≡◌, AllByRecursion, is_stale}
use Rattle.dataplane.proofs.resuming.first_stale.Given as goal

abbrev pub invariant-loop-one : goal.invariant-loop-one
invariant-loop-one l = AllByRecursion (λ x. is_stale l.ports x ≡ false) (take l.one-index l.saved)
