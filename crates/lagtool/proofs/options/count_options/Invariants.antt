use Rattle.std.proofs.Common.{◌≡◌, ◌+◌, drop}
use Rattle.lagtool.specs.Options.{count_options}
use Rattle.lagtool.proofs.options.count_options.Given as goal

abbrev pub invariant-loop-word : goal.invariant-loop-word
invariant-loop-word l = record { count : l.count ≡ l.word-index; rest : l.count + count_options (drop l.word-index l.words) ≡ count_options l.words }
