use Rattle.lagsystem.proofs.Common.{false, SoFar, mux_rows, RunsToRest, PortChangesBy}
use Rattle.lagsystem.proofs.settling.run_mux_not_ready.Given as goal

abbrev pub invariant-loop-system_port : goal.invariant-loop-system_port
invariant-loop-system_port l = SoFar (PortChangesBy (RunsToRest (mux_rows false))) l.system_port-index l.initial.system_ports l.system_ports
