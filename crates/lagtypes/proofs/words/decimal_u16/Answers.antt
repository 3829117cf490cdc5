use Rattle.std.proofs.Common.{arith}
use Rattle.lagtypes.proofs.NumberLemmas.{number_parsed}
use Rattle.lagtypes.proofs.words.decimal_u16.Goals as goal

pub returns : goal.returns
returns c = grind (arith, number_parsed)
