-- Reading and writing of both kinds of PDU (6.4.2.3, 6.5.3.3; profile: what is refused).
use Rattle.std.specs.Prelude.{◌≡◌, ℕ, List, Some, Result, Ok, Err}
use Rattle.slowpdu.specs.declared.fault.WireFault.{WireFault}
use Rattle.slowpdu.specs.Faults.{fault_of}
use Rattle.slowpdu.specs.declared.pdu.Pdu.{Pdu}
use Rattle.slowpdu.specs.declared.pdu.Pdu.TheVariants as pdu
use Rattle.slowpdu.specs.Lacpdus.{Reads, Writes}
use Rattle.slowpdu.specs.Markers.{ReadsMarker, WritesMarker}

-- the payload reads as this PDU
abbrev pub ReadsPdu : List ℕ → Pdu → Type 0
ReadsPdu b (pdu.Lacpdu v) = Reads b v
ReadsPdu b (pdu.Marker m) = ReadsMarker b m

-- this is the payload that is sent for the PDU
abbrev pub WritesPdu : List ℕ → Pdu → Type 0
WritesPdu b (pdu.Lacpdu v) = Writes b v
WritesPdu b (pdu.Marker m) = WritesMarker b m

-- the result of decoding a payload: the PDU that it reads as, or its first fault
abbrev pub IsDecoded : List ℕ → Result Pdu WireFault → Type 0
IsDecoded b (Ok v) = ReadsPdu b v
IsDecoded b (Err e) = fault_of b ≡ Some e
