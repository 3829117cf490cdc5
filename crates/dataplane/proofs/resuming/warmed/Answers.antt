use Rattle.std.proofs.Common.{inr, refl, sym}
use Rattle.dataplane.proofs.resuming.warmed.Goals as goal

pub returns-in-Some-first_touched-clause-refused : goal.returns-in-Some-first_touched-clause-refused
returns-in-Some-first_touched-clause-refused g c = (
  c.in-Some-first_touched.port,
  refl,
  (c.warm_up.new.system.state, c.warm_up.ensures.run, inr (c.in_default.ensures, sym c.in-Some-first_touched.ensures)),
)
