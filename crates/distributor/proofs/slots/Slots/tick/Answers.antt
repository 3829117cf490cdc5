use native.Mathlib.Omega.{arith}
use Rattle.distributor.proofs.TickLemmas.{none_ticked}
use Rattle.distributor.proofs.slots.Slots.tick.Goals as goal

pub returns-else-any_may_flush-clause-states : goal.returns-else-any_may_flush-clause-states
returns-else-any_may_flush-clause-states c = grind (arith, none_ticked)
