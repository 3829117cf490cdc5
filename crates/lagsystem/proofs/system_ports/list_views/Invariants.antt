use Rattle.lagsystem.proofs.Common.{take, ◌≡◌, views}
use Rattle.lagsystem.proofs.system_ports.list_views.Given as goal

abbrev pub invariant-loop-system_port : goal.invariant-loop-system_port
invariant-loop-system_port l = l.found.items ≡ views (take l.system_port-index l.system_ports)
