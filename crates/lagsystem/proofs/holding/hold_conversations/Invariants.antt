use Rattle.lagsystem.proofs.Common.{take, ◌≡◌, ChangesAssignments, after_holding, stopped}
use Rattle.lagsystem.proofs.holding.hold_conversations.Given as goal

abbrev pub invariant-loop-place : goal.invariant-loop-place
invariant-loop-place g l = record {
  changed : ChangesAssignments l.initial.distributor.table l.distributor.table (after_holding (stopped (take l.place l.before) (take l.place l.system_ports)));
  algorithm : l.distributor.algorithm ≡ l.initial.distributor.algorithm;
}
