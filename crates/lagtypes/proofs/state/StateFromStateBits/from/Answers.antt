use Rattle.std.proofs.Common.{arith}
use Rattle.lagtypes.proofs.StateLemmas.{added_state}
use Rattle.lagtypes.proofs.state.StateFromStateBits.from.Goals as goal

pub returns : goal.returns
returns c = grind (arith, added_state)
