use Rattle.lagsystem.proofs.Common.{Bool, false, ◌≤◌, assignment_of, TellsRows, has_freed, is_busy}
use Rattle.lagsystem.proofs.conversation_tables.tell_freed.Given as goal

abbrev pub invariant-loop-conv : goal.invariant-loop-conv
invariant-loop-conv g l = record {
  told : TellsRows Bool false (λ conv. is_busy (assignment_of l.distributor.table l.agg.0 conv)) has_freed l.conv l.initial.busy l.busy
      l.initial.freed l.freed l.count;
  few : l.count ≤ l.conv;
}
