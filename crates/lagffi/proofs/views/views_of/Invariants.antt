use Rattle.lagffi.proofs.Common.{take, ◌≡◌, views_of}
use Rattle.lagffi.proofs.views.views_of.Given as goal

abbrev pub invariant-loop-number : goal.invariant-loop-number
invariant-loop-number g l = l.views.items ≡ views_of l.system.state (take l.number-index l.numbers)
