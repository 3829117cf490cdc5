use Rattle.lagffi.proofs.Common.{take, ◌≡◌, due_on}
use Rattle.lagffi.proofs.masks.due_on.Given as goal

abbrev pub invariant-loop-number : goal.invariant-loop-number
invariant-loop-number g l = l.due.items ≡ due_on l.system.state (take l.number-index l.numbers)
