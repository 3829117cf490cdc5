use Rattle.lagworld.proofs.Common.{One, Two, most_events, model_side, AreBelow, world_state}
use Rattle.lagworld.proofs.InPlace.{few_changes}
use Rattle.lagworld.proofs.Sides.{of_either}
use Rattle.lagworld.proofs.inner.Inner.restart.Goals as goal

pub restart-requires : goal.restart-requires
restart-requires g c = let old = world_state g.C.Cable.items g.C.Cable.limit c.args.self.now in
    of_either (λ h. AreBelow most_events h.histories.items) (model_side c.side_numbered.result) c.args.self.now.one c.args.self.now.two
    c.half_mut.result.now c.half_mut.ensures.value (few_changes One old c.requires) (few_changes Two old c.requires)
