use Rattle.lagtypes.proofs.StateLemmas.{encode_then_decode, write_back}
use Rattle.lagtypes.proofs.laws.state_bits_are_kept.Goals as goal

pub returns-clause-read : goal.returns-clause-read
returns-clause-read c = encode_then_decode

pub returns-clause-written : goal.returns-clause-written
returns-clause-written c = write_back
