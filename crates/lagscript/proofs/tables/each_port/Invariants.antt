use Rattle.lagscript.proofs.Common.{drop, map, ◌+◌, ◌≡◌, each_at_place, table_members, port_config_of}
use Rattle.lagscript.proofs.Walks.{after}
use Rattle.lagscript.proofs.tables.each_port.Given as goal

abbrev pub invariant-loop-table : goal.invariant-loop-table
invariant-loop-table l = record {
  count : l.place ≡ l.table-index;
  rest : after l.ports.items (each_at_place (port_config_of l.system l.own) (l.place + 1) (map table_members (drop l.table-index l.tables)))
      ≡ each_at_place (port_config_of l.system l.own) 1 (map table_members l.tables);
}
