-- What `decode` answers is what the payload holds.
use Rattle.lagtool_capture.proofs.Common.{Err, IfErr, IfOk, List, Ok, Result, Some, ap, sym, ℕ, ◌∙◌, ◌≡◌}
use Rattle.slowpdu.specs.declared.fault.WireFault.{WireFault}
use Rattle.slowpdu.specs.declared.pdu.Pdu.{Pdu}
use Rattle.lagtool_capture.specs.Contents.{content_in, content_of}
use Rattle.slowpdu.specs.Faults.{fault_of}
use Rattle.slowpdu.specs.Pdus.{ReadsPdu}
use Rattle.slowpdu.proofs.PduInLemmas.{pdu_read}
use Rattle.slowpdu.proofs.PduLemmas.{no_fault}

pub content_is : (b : List ℕ) (r : Result Pdu WireFault) → IfOk r (λ v. ReadsPdu b v) → IfErr r (λ e. fault_of b ≡ Some e) → r ≡ content_of b
content_is b (Ok v) h f = sym (ap (content_in b) (no_fault b v h) ∙ ap Ok (pdu_read b v h))
content_is b (Err e) h f = sym (ap (content_in b) f)
