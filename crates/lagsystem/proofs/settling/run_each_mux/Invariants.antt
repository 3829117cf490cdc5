use Rattle.lagsystem.proofs.Common.{SoFar, mux_rows, RunsToRest, PortChangesBy, ready_of}
use Rattle.lagsystem.proofs.settling.run_each_mux.Given as goal

abbrev pub invariant-loop-system_port : goal.invariant-loop-system_port
invariant-loop-system_port l = SoFar (PortChangesBy (λ p q. RunsToRest (mux_rows (ready_of l.aggregators.keys l.port_views p.choice)) p q))
    l.system_port-index l.initial.system_ports l.system_ports
