use Rattle.lagffi.proofs.Common.{drop, length, ◌≡◌, ◌≤◌, mask}
use Rattle.lagffi.proofs.masks.mask.Given as goal

abbrev pub invariant-loop-left : goal.invariant-loop-left
invariant-loop-left l = record { within : l.left ≤ length l.bits; rest : l.value ≡ mask (drop l.left l.bits) }

abbrev pub decreases-loop-left : goal.decreases-loop-left
decreases-loop-left l = l.left
