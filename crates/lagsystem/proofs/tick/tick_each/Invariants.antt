use Rattle.lagsystem.proofs.Common.{SoFar, receive_rows, RunsToRest, count_down, PortChangesBy}
use Rattle.lagsystem.proofs.tick.tick_each.Given as goal

abbrev pub invariant-loop-system_port : goal.invariant-loop-system_port
invariant-loop-system_port l = SoFar (PortChangesBy (λ p q. RunsToRest receive_rows (count_down p) q)) l.system_port-index
    l.initial.system_ports l.system_ports
