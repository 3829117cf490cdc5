use Rattle.lagsystem.proofs.Common.{ℕ, ◌≤◌, assignment_of, TellsRows, has_changed, port_on}
use Rattle.lagsystem.proofs.conversation_tables.tell_ports.Given as goal

abbrev pub invariant-loop-conv : goal.invariant-loop-conv
invariant-loop-conv g l = record {
  told : TellsRows ℕ 0 (λ conv. port_on (assignment_of l.distributor.table l.agg.0 conv)) has_changed l.conv l.initial.ports l.ports
      l.initial.changed l.changed l.count;
  few : l.count ≤ l.conv;
}
