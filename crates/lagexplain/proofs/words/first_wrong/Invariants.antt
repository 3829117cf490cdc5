use Rattle.std.proofs.Common.{◌≡◌, drop, map}
use Rattle.lagscript.specs.Results.{word_octets}
use Rattle.lagexplain.specs.Entries.{first_wrong}
use Rattle.lagexplain.proofs.words.first_wrong.Given as goal

abbrev pub invariant-loop-word : goal.invariant-loop-word
invariant-loop-word l = record {
  count : l.place ≡ l.word-index;
  rest : first_wrong l.cables l.kinds l.place (map word_octets (drop l.word-index l.words)) ≡ first_wrong l.cables l.kinds 0 (map word_octets l.words);
}
