use Rattle.dataplane.proofs.Common.{take, ◌*◌, ◌≡◌, ◌≤◌, load_on}
use Rattle.dataplane.proofs.balance.moves.port_load.Given as goal

abbrev pub invariant-loop-one : goal.invariant-loop-one
invariant-loop-one l = (l.load ≡ load_on l.port (take l.one-index l.carried)) × (l.load ≤ l.one-index * 4294967295)
