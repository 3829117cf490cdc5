use Rattle.lagsystem.proofs.Common.{ℕ, ◌≡◌, count_standby, PromotesTimes, views}
use Rattle.lagsystem.proofs.promoting.promote_all.Given as goal

abbrev pub invariant-loop-agg : goal.invariant-loop-agg
invariant-loop-agg l = record {
  promoted : (n : ℕ) × PromotesTimes l.aggregators l.agg n l.initial.system_ports l.system_ports;
  port_views : l.port_views ≡ views l.system_ports;
}

abbrev pub decreases-loop-agg : goal.decreases-loop-agg
decreases-loop-agg l = count_standby l.agg l.system_ports
