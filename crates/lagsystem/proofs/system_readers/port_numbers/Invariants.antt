use Rattle.lagsystem.proofs.Common.{take, ◌≡◌, port_numbers}
use Rattle.lagsystem.proofs.system_readers.port_numbers.Given as goal

abbrev pub invariant-loop-system_port : goal.invariant-loop-system_port
invariant-loop-system_port l = l.found.items ≡ port_numbers (take l.system_port-index l.system_ports)
