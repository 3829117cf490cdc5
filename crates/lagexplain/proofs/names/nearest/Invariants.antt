use Rattle.std.proofs.Common.{map, option_map, take}
use Rattle.lagscript.specs.Results.{word_octets}
use Rattle.lagexplain.proofs.NearestLemmas.{NearestSoFar}
use Rattle.lagexplain.proofs.names.nearest.Given as goal

abbrev pub invariant-loop-name : goal.invariant-loop-name
invariant-loop-name l = NearestSoFar l.fn.word (map word_octets (take l.name-index l.names)) l.fewest (option_map word_octets l.found)
