use native.Mathlib.Omega.{arith}
use Rattle.distributor.proofs.Common.{◌∙◌, set-set}
use Rattle.distributor.proofs.slots.Slots.set.Goals as goal

pub returns-clause-states : goal.returns-clause-states
returns-clause-states c = grind (arith, set-set)
