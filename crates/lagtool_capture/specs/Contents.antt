-- What the payload of a frame of the slow protocols holds (6.4.2.3, 6.5.3.3).
use Rattle.std.specs.Prelude.{ℕ, List, Option, Some, None, Result, Ok, Err}
use Rattle.slowpdu.specs.Faults.{fault_of}
use Rattle.slowpdu.specs.Readings.{pdu_in}
use Rattle.slowpdu.specs.declared.fault.WireFault.{WireFault}
use Rattle.slowpdu.specs.declared.pdu.Pdu.{Pdu}

-- the PDU if the payload has no fault, else the fault
abbrev pub content_in : List ℕ → Option WireFault → Result Pdu WireFault
content_in b None = Ok (pdu_in b)
content_in b (Some e) = Err e

abbrev pub content_of : List ℕ → Result Pdu WireFault
content_of b = content_in b (fault_of b)
