use Rattle.std.proofs.Common.{subst, sym, ◌∙◌}
use Rattle.distributor.specs.Calls.{PicksIndexes}
use Rattle.example_moved_conversation.proofs.move_over.Goals as goal

pub hold-requires : goal.hold-requires
hold-requires g c =
    record { usable = subst (λ f. PicksIndexes (λ conv count. g.F.Fn.pre f (conv, (count, tt))) (λ conv count place. g.F.Fn.post f (conv, (count, tt)) place)) (sym c.offer.ensures.algorithm) c.requires.usable }

pub offer-requires-2 : goal.offer-requires-2
offer-requires-2 g c =
    record { usable = subst (λ f. PicksIndexes (λ conv count. g.F.Fn.pre f (conv, (count, tt))) (λ conv count place. g.F.Fn.post f (conv, (count, tt)) place)) (sym (c.carry-2.ensures.from ∙ (c.carry.ensures.from ∙ (c.hold.ensures.algorithm ∙ c.offer.ensures.algorithm)))) c.requires.usable }
