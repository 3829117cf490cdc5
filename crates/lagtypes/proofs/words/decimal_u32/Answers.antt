use Rattle.std.proofs.Common.{arith}
use Rattle.lagtypes.proofs.NumberLemmas.{long_parsed}
use Rattle.lagtypes.proofs.words.decimal_u32.Goals as goal

pub returns : goal.returns
returns c = grind (arith, long_parsed)
