use Rattle.dataplane.proofs.Common.{drop, ◌≡◌, first_touched}
use Rattle.dataplane.proofs.resuming.first_touched.Given as goal

abbrev pub invariant-loop-config : goal.invariant-loop-config
invariant-loop-config g l =
    first_touched l.system.state l.identifier l.saved l.ports ≡ first_touched l.system.state l.identifier l.saved (drop l.config-index l.ports)
