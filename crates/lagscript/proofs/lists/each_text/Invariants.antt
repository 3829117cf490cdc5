use Rattle.lagscript.proofs.Common.{drop, map, ◌≡◌, as_str, items_view, each_in, word_octets}
use Rattle.lagscript.proofs.Walks.{gathered}
use Rattle.lagscript.proofs.lists.each_text.Given as goal

abbrev pub invariant-loop-value : goal.invariant-loop-value
invariant-loop-value l = gathered (map word_octets l.texts.items) (each_in as_str (items_view (drop l.value-index l.values))) ≡ each_in
    as_str (items_view l.values)
