use Rattle.std.proofs.Common.{subst, sym}
use Rattle.distributor.specs.Calls.{PicksIndexes}
use Rattle.example_moved_conversation.proofs.hold.Goals as goal

pub offer-requires : goal.offer-requires
offer-requires g c =
    record { usable = subst (λ f. PicksIndexes (λ conv count. g.F.Fn.pre f (conv, (count, tt))) (λ conv count place. g.F.Fn.post f (conv, (count, tt)) place)) (sym c.move_conversation.ensures.algorithm) c.requires.usable }
