use Rattle.lagworld.proofs.Common.{ap, subst, sym, ◌∙◌, WorldOffers, model_side, IsSound, with_links, world_state}
use Rattle.lagworld.proofs.Sides.{algorithms_of}
use Rattle.lagworld.proofs.EmitLemmas.{stays_so}
use Rattle.lagworld.proofs.inner.Inner.offer.Goals as goal

pub offer_reserved-requires-clause-sound : goal.offer_reserved-requires-clause-sound
offer_reserved-requires-clause-sound g c = let old = world_state g.C.Cable.items g.C.Cable.limit c.args.self.now in
    subst IsSound (sym (c.reserve_serial.ensures.same ∙ ap (with_links old) c.reserve_all.ensures.same)) c.requires.sound

pub offer_reserved-requires-clause-one : goal.offer_reserved-requires-clause-one
offer_reserved-requires-clause-one g c = rw c.reserve_serial.ensures.algorithm_one c.requires.one

pub offer_reserved-requires-clause-two : goal.offer_reserved-requires-clause-two
offer_reserved-requires-clause-two g c = rw c.reserve_serial.ensures.algorithm_two c.requires.two

pub returns-clause-offers : goal.returns-clause-offers
returns-clause-offers g c =
    let gives = algorithms_of g.F.Fn.post c.args.self.now.one.system.algorithm c.args.self.now.two.system.algorithm in
    let old = world_state g.C.Cable.items g.C.Cable.limit c.args.self.now in
    let new = world_state g.C.Cable.items g.C.Cable.limit c.offer_reserved.new.self in
    let octets = c.in_ok-octets.ensures.items ∙ c.as_slice.ensures.value in
    subst (λ s. WorldOffers gives s c.args.agg c.args.frame.now.items old c.offer_reserved.result new) c.side_numbered-side.ensures
    (subst (λ j. WorldOffers gives (model_side c.side_numbered-side.result) c.args.agg c.args.frame.now.items j c.offer_reserved.result new)
    (c.reserve_serial.ensures.same ∙ ap (with_links old) c.reserve_all.ensures.same)
    (rw (c.reserve_serial.ensures.algorithm_one, c.reserve_serial.ensures.algorithm_two, octets) at c.offer_reserved.ensures.offers))

pub returns-in_err-reserve_all-clause-unchanged : goal.returns-in_err-reserve_all-clause-unchanged
returns-in_err-reserve_all-clause-unchanged g c = let old = world_state g.C.Cable.items g.C.Cable.limit c.args.self.now in
    stays_so c.from_residual-in_err-reserve_all.result _ old (ap (with_links old) c.reserve_all.ensures.same)

pub returns-in_err-reserve_serial-clause-unchanged : goal.returns-in_err-reserve_serial-clause-unchanged
returns-in_err-reserve_serial-clause-unchanged g c = let old = world_state g.C.Cable.items g.C.Cable.limit c.args.self.now in
    stays_so c.from_residual-in_err-reserve_serial.result (world_state g.C.Cable.items g.C.Cable.limit c.reserve_serial.new.self) old
    (c.reserve_serial.ensures.same ∙ ap (with_links old) c.reserve_all.ensures.same)
