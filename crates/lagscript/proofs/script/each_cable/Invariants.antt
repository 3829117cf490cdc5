use Rattle.lagscript.proofs.Common.{drop, map, ◌+◌, ◌≡◌, each_at_place, table_members, cable_of}
use Rattle.lagscript.proofs.Walks.{after}
use Rattle.lagscript.proofs.script.each_cable.Given as goal

abbrev pub invariant-loop-table : goal.invariant-loop-table
invariant-loop-table l = record {
  count : l.place ≡ l.table-index;
  rest : after l.cables.items (each_at_place (cable_of) (l.place + 1) (map table_members (drop l.table-index l.tables))) ≡ each_at_place
      (cable_of) 1 (map table_members l.tables);
}
