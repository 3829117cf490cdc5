use Rattle.lagworld.proofs.Common.{PicksIndexes, model_side}
use Rattle.lagworld.proofs.Sides.{gives_of, of_either}
use Rattle.lagworld.proofs.inner.Inner.ask_offer.Goals as goal

pub ask_offer-requires : goal.ask_offer-requires
ask_offer-requires g c =
    of_either (λ h. PicksIndexes (λ conv count. g.F.Fn.pre h.system.algorithm (conv, (count, tt))) (gives_of g.F.Fn.post h.system.algorithm))
    (model_side c.args.side) c.args.self.now.one c.args.self.now.two c.half_mut.result.now c.half_mut.ensures.value c.requires.one c.requires.two
