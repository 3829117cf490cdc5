use native.Mathlib.Omega.{arith}
use Rattle.distributor.proofs.FlagLemmas.{none_passes}
use Rattle.distributor.proofs.slots.Slots.may_pass.Goals as goal

pub returns-in-WantsMarker : goal.returns-in-WantsMarker
returns-in-WantsMarker c = grind (arith, none_passes)

pub returns-in-AwaitsResponse : goal.returns-in-AwaitsResponse
returns-in-AwaitsResponse c = grind (arith, none_passes)

pub returns-else-index : goal.returns-else-index
returns-else-index c = grind (arith, none_passes)
