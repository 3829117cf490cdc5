use native.Mathlib.Omega.{arith}
use Rattle.dataplane.proofs.Common.{[], false, sym, ◌∙◌, ◌≡◌, false≢true, is_stale}
use Rattle.dataplane.proofs.WarmPorts.{found, holds_of_all, holds_on}
use Rattle.dataplane.proofs.resuming.first_stale.Goals as goal

pub loop-one-init : goal.loop-one-init
loop-one-init c = tt

pub returns-then-is_stale : goal.returns-then-is_stale
returns-then-is_stale c = grind (arith, found, is_stale)

pub loop-one-preserved : goal.loop-one-preserved
loop-one-preserved c =
    holds_on (λ x. is_stale c.args.ports.now x ≡ false) c.args.saved.now c.loop-one.one-index (record { port = 0; aggregator = 0; age = 0; frame = [] })
    c.loop-one-test.true c.loop-one.invariant (sym c.is_stale.ensures ∙ c.if-is_stale.false)

pub returns : goal.returns
returns c = holds_of_all (λ x. is_stale c.args.ports.now x ≡ false) c.args.saved.now c.loop-one.one-index c.loop-one-test.false c.loop-one.invariant
