-- The reading of a payload as a function of its octets (6.4.2.3, 6.5.3.3). If the payload reads as a PDU, the function
-- gives that PDU (`as_function` of `one_reading_or_one_fault`); else its value means nothing.
use Rattle.std.specs.Prelude.{ℕ, ◌+◌, ◌==◌, List, drop, if◌then◌else◌}
use Rattle.std.specs.Int.{bytes_high_first}
use Rattle.byteorder.specs.Endian.{big_number}
use Rattle.slowpdu.specs.declared.pdu.Info.{Info}
use Rattle.slowpdu.specs.declared.pdu.Lacpdu.{Lacpdu}
use Rattle.slowpdu.specs.declared.pdu.Marker.{Marker}
use Rattle.slowpdu.specs.declared.pdu.MarkerKind.{MarkerKind}
use Rattle.slowpdu.specs.declared.pdu.MarkerKind.TheVariants.{Information, Response}
use Rattle.slowpdu.specs.declared.pdu.Pdu.{Pdu}
use Rattle.slowpdu.specs.declared.pdu.Pdu.TheVariants as pdu

-- the number in this many octets (second number) from this offset on (first number), the most significant first
abbrev pub number_at : List ℕ → ℕ → ℕ → ℕ
number_at b at width = big_number width (drop at b)

-- the six octets from this offset on, worked out from their number, so that each is below 256
abbrev pub address_in : List ℕ → ℕ → List ℕ
address_in b at = bytes_high_first 6 (number_at b at 6)

-- the participant information from this offset on
abbrev pub info_at : List ℕ → ℕ → Info
info_at b at = record {
  system = record { priority = number_at b at 2; mac = address_in b (at + 2) };
  key = record { 0 = number_at b (at + 8) 2 };
  port = record { priority = number_at b (at + 10) 2; number = number_at b (at + 12) 2 };
  state = record { 0 = number_at b (at + 14) 1 };
}

-- the LACPDU that the payload reads as, if it has no fault and its subtype is 1
unfoldable pub lacpdu_in : List ℕ → Lacpdu
lacpdu_in b = record { actor = info_at b 4; partner = info_at b 24; max_delay = number_at b 44 2 }

-- the kind with this TLV type; for a number other than 1 it is a response
abbrev pub kind_of_tlv_type : ℕ → MarkerKind
kind_of_tlv_type n = if n == 1 then Information else Response

-- the Marker PDU that the payload reads as, if it has no fault and its subtype is 2
unfoldable pub marker_in : List ℕ → Marker
marker_in b = record { kind = kind_of_tlv_type (number_at b 2 1); port = number_at b 4 2; system = address_in b 6; id = number_at b 12 4 }

-- an LACPDU if the subtype is 1, else a Marker PDU
unfoldable pub pdu_in : List ℕ → Pdu
pdu_in b = if number_at b 0 1 == 1 then pdu.Lacpdu (lacpdu_in b) else pdu.Marker (marker_in b)
