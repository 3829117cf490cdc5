use Rattle.lagsystem.proofs.Common.{take, ◌≡◌, aggregators_in_use}
use Rattle.lagsystem.proofs.holding.list_aggregators_in_use.Given as goal

abbrev pub invariant-loop-system_port : goal.invariant-loop-system_port
invariant-loop-system_port l = l.found.items ≡ aggregators_in_use (take l.system_port-index l.system_ports)
