use Rattle.lagsystem.proofs.Common.{take, CountsMembers}
use Rattle.lagsystem.proofs.promoting.member_counts.Given as goal

abbrev pub invariant-loop-system_port : goal.invariant-loop-system_port
invariant-loop-system_port l = CountsMembers (take l.system_port-index l.system_ports) l.counts
