use Rattle.lagscript.proofs.Common.{drop, map, ◌+◌, ◌≡◌, event_at, event_values, each_at_place, word_octets}
use Rattle.lagscript.proofs.Walks.{after}
use Rattle.lagscript.proofs.script.each_event.Given as goal

abbrev pub invariant-loop-text : goal.invariant-loop-text
invariant-loop-text l = record {
  count : l.place ≡ l.text-index;
  rest : after (event_values l.events.items) (each_at_place (event_at l.cables) (l.place + 1) (map word_octets (drop l.text-index l.texts)))
      ≡ each_at_place (event_at l.cables) 1 (map word_octets l.texts);
}
