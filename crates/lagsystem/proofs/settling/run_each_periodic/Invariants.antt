use Rattle.lagsystem.proofs.Common.{SoFar, RunsPeriodic, PortChangesBy}
use Rattle.lagsystem.proofs.settling.run_each_periodic.Given as goal

abbrev pub invariant-loop-system_port : goal.invariant-loop-system_port
invariant-loop-system_port l = SoFar (PortChangesBy (RunsPeriodic)) l.system_port-index l.initial.system_ports l.system_ports
