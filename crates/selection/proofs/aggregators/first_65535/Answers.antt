use Rattle.selection.proofs.Common.{arith, refl, sym, take_all, length-take-le}
use Rattle.selection.specs.Choice.{first_65535}
use Rattle.selection.proofs.aggregators.first_65535.Goals as goal

pub slice_bounds-result-end : goal.slice_bounds-result-end
slice_bounds-result-end c = sym (length-take-le 65535 c.args.keys.now (omega arith))

pub returns-then-keys-le65535-clause-first : goal.returns-then-keys-le65535-clause-first
unfolding first_65535
returns-then-keys-le65535-clause-first c = sym (take_all 65535 c.args.keys.now (omega arith))

pub returns-else-keys-le65535-clause-first : goal.returns-else-keys-le65535-clause-first
unfolding first_65535
returns-else-keys-le65535-clause-first c = refl

pub returns-else-keys-le65535-clause-few : goal.returns-else-keys-le65535-clause-few
returns-else-keys-le65535-clause-few c = omega (arith, length-take-le 65535 c.args.keys.now (omega arith))
