use Rattle.std.proofs.Common.{◌≡◌}
use Rattle.lagtypes.proofs.words.words_of.Given as goal

abbrev pub invariant-loop-word : goal.invariant-loop-word
invariant-loop-word l = l.words.items ≡ l.yielded
