use Rattle.slowpdu.proofs.MarkerLemmas.{not_both}
use Rattle.slowpdu.proofs.PduLemmas.{no_fault, one_pdu}
use Rattle.slowpdu.proofs.PduInLemmas.{pdu_read}
use Rattle.slowpdu.proofs.ReadingLemmas.{a_reading}
use Rattle.slowpdu.proofs.laws.one_reading_or_one_fault.Goals as goal

pub returns-clause-kinds : goal.returns-clause-kinds
returns-clause-kinds c = λ b v m hv hm. not_both b v m hv hm

pub returns-clause-readings : goal.returns-clause-readings
returns-clause-readings c = λ b v w hv hw. one_pdu b v w hv hw

pub returns-clause-as_function : goal.returns-clause-as_function
returns-clause-as_function c = λ b v h. pdu_read b v h

pub returns-clause-not_both : goal.returns-clause-not_both
returns-clause-not_both c = λ b v h. no_fault b v h

pub returns-clause-not_neither : goal.returns-clause-not_neither
returns-clause-not_neither c = λ b octets h. a_reading b octets h
