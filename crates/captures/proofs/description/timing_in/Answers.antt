use Rattle.std.proofs.Common.{arith}
use Rattle.captures.proofs.EntryLemmas.{no_entry}
use Rattle.captures.proofs.description.timing_in.Goals as goal

pub returns-clause-timing : goal.returns-clause-timing
returns-clause-timing c = grind (arith, no_entry)
