use native.Mathlib.Omega.{arith}
use Rattle.distributor.proofs.FlagLemmas.{release_passed}
use Rattle.distributor.proofs.slots.Slots.may_change.Goals as goal

pub returns-in-Release : goal.returns-in-Release
returns-in-Release c = grind (arith, release_passed)
