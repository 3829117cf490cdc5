use Rattle.distributor.proofs.Common.{arith, eqb, false, length, sym, ◌<◌, ◌∙◌, ◌≡◌, eqb-false}
use Rattle.distributor.proofs.PickLemmas.{picked, picked_among}
use Rattle.distributor.proofs.conversations.Distributor.pick_by_algorithm.Goals as goal
use Rattle.distributor.proofs.conversations.Distributor.pick_by_algorithm.Given as given

below : (g : given.Over) (c : goal.After-algorithm-place g) → c.algorithm-place.result < length c.args.ports.now
below g c = let e : eqb (length c.args.ports.now) 0 ≡ false = sym c.is_empty.ensures ∙ c.if-is_empty.false in
    let some = eqb-false (length c.args.ports.now) 0 e in
    (c.requires.usable c.args.conv (length c.args.ports.now) c.ranges.conv.fits c.requires.few).1 c.algorithm-place.result
    (omega (arith, some)) c.algorithm-place.ensures

pub offset_bounds-ports-place : goal.offset_bounds-ports-place
offset_bounds-ports-place g c = let h = below g c in omega (arith, h, c.requires.few)

pub bounds-ports-place : goal.bounds-ports-place
bounds-ports-place g c = let e : eqb (length c.args.ports.now) 0 ≡ false = sym c.is_empty.ensures ∙ c.if-is_empty.false in
    let some = eqb-false (length c.args.ports.now) 0 e in
    (c.requires.usable c.args.conv (length c.args.ports.now) c.ranges.conv.fits c.requires.few).1 c.algorithm-place.result
    (omega (arith, some)) c.algorithm-place.ensures

pub returns-clause-picks : goal.returns-clause-picks
returns-clause-picks g c = picked (λ conv count place. g.F.Fn.post c.args.self.now.algorithm (conv, (count, tt)) place) c.args.conv
    c.args.ports.now c.algorithm-place.result c.algorithm-place.ensures (bounds-ports-place g c)

pub returns-clause-among : goal.returns-clause-among
returns-clause-among g c = picked_among c.args.ports.now c.algorithm-place.result (bounds-ports-place g c)
