use Rattle.distributor.proofs.Common.{None, arith, replicate, rules, ◌∙◌, ◌≡◌, take-replicate, overwrites, Free}
use Rattle.distributor.proofs.FreeLemmas.{freed_on}
use Rattle.distributor.proofs.slots.copy_free.Goals as goal

pub loop-at-preserved : goal.loop-at-preserved
loop-at-preserved c = let i = c.loop-at.invariant in
    let copied : c.copy_from_slice.new.self ≡ replicate c.min-piece.result (Free None) =
    c.copy_from_slice.ensures.after ∙ take-replicate c.min-piece.result 64 (Free None) (omega arith) in
    (search (rules, overwrites), search (rules, overwrites), freed_on _ _ c.loop-at.at c.min-piece.result _ i.1 i.2 copied)
