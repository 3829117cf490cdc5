-- The numbers of a PDU, as a program in C has them (6.4.2.3, 6.5.3.3).
use Rattle.std.specs.Prelude.{◌≡◌, ◌==◌, ℕ, List, Option, None, Some, Result, Ok, Err, if◌then◌else◌, option_map}
use Rattle.slowpdu.specs.declared.fault.WireFault.{WireFault}
use Rattle.slowpdu.specs.declared.fault.WireFault.TheVariants.{Short, OtherSubtype, BadLength, MarkerTlv}
use Rattle.slowpdu.specs.declared.pdu.Info.{Info}
use Rattle.slowpdu.specs.declared.pdu.Lacpdu.{Lacpdu}
use Rattle.slowpdu.specs.declared.pdu.Marker.{Marker}
use Rattle.slowpdu.specs.declared.pdu.MarkerKind.{MarkerKind}
use Rattle.slowpdu.specs.declared.pdu.MarkerKind.TheVariants.{Information, Response}
use Rattle.slowpdu.specs.declared.pdu.Pdu.{Pdu}
use Rattle.slowpdu.specs.declared.pdu.Pdu.TheVariants as pdu
use Rattle.slowpdu.specs.Faults.{fault_number}
use Rattle.slowpdu.specs.Markers.{tlv_type}
use Rattle.slowpdu.specs.Pdus.{WritesPdu}
use Rattle.lagffi.specs.declared.codec_values.LagDecoded.{LagDecoded}
use Rattle.lagffi.specs.declared.codec_values.LagParticipant.{LagParticipant}
use Rattle.lagffi.specs.declared.codec_values.LagPdu.{LagPdu}
use Rattle.lagffi.specs.Lists.{put_first}
use Rattle.lagffi.specs.ReaderValues.{no_mac}

-- The next two are no refusals of a system: a payload has a fault; a subtype or a TLV type is that of no PDU.
abbrev pub bad_payload : ℕ
bad_payload = 17

abbrev pub no_pdu : ℕ
no_pdu = 18

-- one end of an LACPDU
abbrev pub participant_of : Info → LagParticipant
participant_of i =
    record {
      system_priority = i.system.priority;
      system_mac = i.system.mac;
      key = i.key.0;
      port_priority = i.port.priority;
      port = i.port.number;
      state = i.state.0;
    }

-- the end of an LACPDU with these numbers
abbrev pub info_of : LagParticipant → Info
info_of p =
    record {
      system = record { priority = p.system_priority; mac = p.system_mac };
      key = record { 0 = p.key };
      port = record { priority = p.port_priority; number = p.port };
      state = record { 0 = p.state };
    }

-- an end in a Marker PDU, which has none
abbrev pub no_participant : LagParticipant
no_participant = record { system_priority = 0; system_mac = no_mac; key = 0; port_priority = 0; port = 0; state = 0 }

-- the numbers of a PDU; those of the other kind are 0
abbrev pub lag_pdu : Pdu → LagPdu
lag_pdu (pdu.Lacpdu v) =
    record {
      subtype = 1;
      tlv_type = 0;
      max_delay = v.max_delay;
      actor = participant_of v.actor;
      partner = participant_of v.partner;
      requester_port = 0;
      requester_system = no_mac;
      transaction_id = 0;
    }
lag_pdu (pdu.Marker m) =
    record {
      subtype = 2;
      tlv_type = tlv_type m.kind;
      max_delay = 0;
      actor = no_participant;
      partner = no_participant;
      requester_port = m.port;
      requester_system = m.system;
      transaction_id = m.id;
    }

-- the LACPDU with these numbers
abbrev pub lacpdu_of : LagPdu → Lacpdu
lacpdu_of p = record { actor = info_of p.actor; partner = info_of p.partner; max_delay = p.max_delay }

-- the Marker PDU of this kind with these numbers
abbrev pub marker_of : LagPdu → MarkerKind → Marker
marker_of p kind = record { kind = kind; port = p.requester_port; system = p.requester_system; id = p.transaction_id }

-- the kind of Marker PDU with this TLV type, if there is one
abbrev pub kind_of : ℕ → Option MarkerKind
kind_of type = if type == 1 then Some Information else if type == 2 then Some Response else None

-- the PDU with these numbers, if there is one; those of the other kind mean nothing
abbrev pub pdu_of : LagPdu → Option Pdu
pdu_of p =
    if p.subtype == 1 then Some (pdu.Lacpdu (lacpdu_of p))
    else if p.subtype == 2 then option_map (λ kind. pdu.Marker (marker_of p kind)) (kind_of p.tlv_type)
    else None

-- the offset of the octet that a fault names; in a short payload that of the first one that is missing
abbrev pub fault_at : WireFault → ℕ
fault_at (Short have) = have
fault_at (OtherSubtype found) = 0
fault_at (BadLength at found) = at
fault_at (MarkerTlv found) = 2

-- the octet that stands there; 0 where it is missing
abbrev pub fault_found : WireFault → ℕ
fault_found (Short have) = 0
fault_found (OtherSubtype found) = found
fault_found (BadLength at found) = found
fault_found (MarkerTlv found) = found

-- what decoding answers: done, or the fault of the payload
abbrev pub decoded_of : Result Pdu WireFault → LagDecoded
decoded_of (Ok v) = record { status = 0; fault = 0; at = 0; found = 0 }
decoded_of (Err e) = record { status = bad_payload; fault = fault_number e; at = fault_at e; found = fault_found e }

-- the numbers after decoding: those of the PDU, where there is one
abbrev pub pdu_after_decode : LagPdu → Result Pdu WireFault → LagPdu
pdu_after_decode old (Ok v) = lag_pdu v
pdu_after_decode old (Err e) = old

-- the buffer has the payload that is sent for this PDU at its front, and else what stood there
abbrev pub WritesFirst : List ℕ → List ℕ → Pdu → Type 0
WritesFirst old new v = (octets : List ℕ) × WritesPdu octets v × (new ≡ put_first octets old)
