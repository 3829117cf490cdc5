use Rattle.slowpdu.proofs.FaultLemmas.{fault-append}
use Rattle.slowpdu.proofs.PduLemmas.{rest_ignored}
use Rattle.slowpdu.proofs.laws.what_follows_is_ignored.Goals as goal

pub returns-clause-readings : goal.returns-clause-readings
returns-clause-readings c = λ b rest v long. rest_ignored b rest v long

pub returns-clause-faults : goal.returns-clause-faults
returns-clause-faults c = λ b rest long. fault-append b rest long
