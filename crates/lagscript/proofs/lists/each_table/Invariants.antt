use Rattle.lagscript.proofs.Common.{drop, map, ◌≡◌, as_table, items_view, each_in, table_members}
use Rattle.lagscript.proofs.Walks.{gathered}
use Rattle.lagscript.proofs.lists.each_table.Given as goal

abbrev pub invariant-loop-value : goal.invariant-loop-value
invariant-loop-value l = gathered (map table_members l.tables.items) (each_in as_table (items_view (drop l.value-index l.values))) ≡ each_in
    as_table (items_view l.values)
