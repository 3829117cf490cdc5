use Rattle.lagworld.proofs.ArrivingLemmas.{told_first, told_none}
use Rattle.lagworld.proofs.delivering.first_head.Goals as goal

pub returns-in-Some : goal.returns-in-Some
returns-in-Some g c = told_first c.args.port (g.C.Cable.items c.args.cable.now) c.in-Some.item.now c.in-Some.ensures

pub returns-in-None : goal.returns-in-None
returns-in-None g c = told_none c.args.port (g.C.Cable.items c.args.cable.now) c.in-None.ensures
