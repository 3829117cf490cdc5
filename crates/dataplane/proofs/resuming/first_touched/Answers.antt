use native.Mathlib.Omega.{arith}
use Rattle.dataplane.proofs.Common.{refl, ◌∙◌}
use Rattle.dataplane.proofs.WarmPorts.{touched_next, touched_none, touched_on}
use Rattle.dataplane.proofs.resuming.first_touched.Goals as goal

pub loop-config-init : goal.loop-config-init
loop-config-init g c = refl

pub loop-config-preserved : goal.loop-config-preserved
loop-config-preserved g c = grind (arith, touched_on)

pub returns-then-not-is_left_at : goal.returns-then-not-is_left_at
returns-then-not-is_left_at g c = grind (arith, touched_next)

pub returns : goal.returns
returns g c = grind (arith, touched_none)
