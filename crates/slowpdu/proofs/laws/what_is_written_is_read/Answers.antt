use Rattle.slowpdu.proofs.Common.{◌++◌}
use Rattle.slowpdu.proofs.PduLemmas.{one_pdu, written_before}
use Rattle.slowpdu.proofs.laws.what_is_written_is_read.Goals as goal

pub returns-clause-reads : goal.returns-clause-reads
returns-clause-reads c = λ b rest v h. written_before b rest v h

pub returns-clause-only : goal.returns-clause-only
returns-clause-only c = λ b rest v w h r. one_pdu (b ++ rest) v w (written_before b rest v h) r
