use native.Mathlib.Omega.{arith}
use Rattle.distributor.proofs.Common.{◌∙◌, ◌≡◌, get_or-replicate}
use Rattle.distributor.proofs.WalkLemmas.{all_free, free_past}
use Rattle.distributor.proofs.slots.Slots.new.Goals as goal

pub returns-clause-chained : goal.returns-clause-chained
returns-clause-chained c = grind (arith, all_free, get_or-replicate)

pub returns-clause-flagged : goal.returns-clause-flagged
returns-clause-flagged c = grind (arith, free_past, get_or-replicate)
