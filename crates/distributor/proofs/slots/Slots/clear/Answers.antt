use native.Mathlib.Omega.{arith}
use Rattle.distributor.proofs.Common.{None, ap, replicate, ◌∙◌, get_or-replicate, length-replicate, Free}
use Rattle.distributor.proofs.WalkLemmas.{all_free, free_past}
use Rattle.distributor.proofs.slots.Slots.clear.Goals as goal

pub returns-clause-chained : goal.returns-clause-chained
returns-clause-chained c = grind (arith, all_free, length-replicate, get_or-replicate)

pub returns-clause-flagged : goal.returns-clause-flagged
returns-clause-flagged c = grind (arith, free_past, length-replicate, get_or-replicate)

pub returns-clause-states : goal.returns-clause-states
returns-clause-states c = c.free_each.ensures ∙ ap (λ n. replicate n (Free None)) c.requires.chained.states_len
