use Rattle.std.proofs.Common.{◌≡◌, drop}
use Rattle.lagtool.specs.Options.{has_option}
use Rattle.lagtool.proofs.options.has_option.Given as goal

abbrev pub invariant-loop-word : goal.invariant-loop-word
invariant-loop-word l = has_option l.name (drop l.word-index l.words) ≡ has_option l.name l.words
