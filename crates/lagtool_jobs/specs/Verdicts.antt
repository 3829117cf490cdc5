-- The verdict of `check` on a line (profile).
use Rattle.std.specs.Prelude.{ℕ, ◌==◌, ◌&&◌, Bool, true, false, List, length, drop, slice_index, nat_lt}
use Rattle.std.specs.Prelude.{if◌then◌else◌, codes, Option, Some, None, Result, Ok, Err}
use Rattle.hex.specs.Hex.{decode_of}
use Rattle.hex.specs.declared.error.FromHexError.{FromHexError}
use Rattle.slowpdu.specs.Faults.{fault_of}
use Rattle.slowpdu.specs.declared.fault.WireFault.{WireFault}
use Rattle.slowpdu.specs.declared.pdu.MarkerKind.{MarkerKind}
use Rattle.slowpdu.specs.declared.pdu.MarkerKind.TheVariants.{Information, Response}
use Rattle.lagstreams.specs.Lines.{longest_line, without_return}
use Rattle.lagtool_jobs.specs.Texts.{refusal_text}
use Rattle.lagtool_jobs.specs.declared.verdict.Verdict.{Verdict}
use Rattle.lagtool_jobs.specs.declared.verdict.Verdict.TheVariants.{Lacpdu, Marker, MarkerResponse, Data, Runt, Refused, NotHex, TooLong}

-- the verdict on a frame with a Marker PDU
abbrev pub kind_verdict : MarkerKind → Verdict
kind_verdict Information = Marker
kind_verdict Response = MarkerResponse

-- The verdict on a frame whose payload is not refused. Octet 0 is the subtype, 1 for LACP; octet 2 of a Marker PDU is
-- its TLV type, 1 for Marker Information.
abbrev pub accepted_verdict : List ℕ → Verdict
accepted_verdict b = if slice_index b 0 == 1 then Lacpdu else if slice_index b 2 == 1 then Marker else MarkerResponse

-- the verdict on a control frame with this payload and this fault of the payload, if it has one
abbrev pub verdict_in : List ℕ → Option WireFault → Verdict
verdict_in b None = accepted_verdict b
verdict_in b (Some e) = Refused e

-- the verdict on a frame with this payload of a control frame
abbrev pub payload_verdict : List ℕ → Verdict
payload_verdict b = verdict_in b (fault_of b)

-- the frame has the EtherType of the Slow Protocols, 0x8809
abbrev pub is_slow : List ℕ → Bool
is_slow octets = (slice_index octets 12 == 0x88) && (slice_index octets 13 == 0x09)

-- the verdict on a frame
abbrev pub frame_verdict : List ℕ → Verdict
frame_verdict octets =
    if nat_lt (length octets) 14 then Runt else if is_slow octets then payload_verdict (drop 14 octets) else Data

-- the verdict on a line whose hexadecimal digits were decoded
abbrev pub hex_verdict : Result (List ℕ) FromHexError → Verdict
hex_verdict (Ok octets) = frame_verdict octets
hex_verdict (Err e) = NotHex

-- the verdict on a line
abbrev pub line_verdict : List ℕ → Verdict
line_verdict line = if nat_lt longest_line (length line) then TooLong else hex_verdict (decode_of (without_return line))

-- all verdicts but the first four are faults
abbrev pub is_fault : Verdict → Bool
is_fault Lacpdu = false
is_fault Marker = false
is_fault MarkerResponse = false
is_fault Data = false
is_fault Runt = true
is_fault (Refused e) = true
is_fault NotHex = true
is_fault TooLong = true

-- the verdict, as `check` prints it
abbrev pub verdict_text : Verdict → List ℕ
verdict_text Lacpdu = codes "lacpdu"
verdict_text Marker = codes "marker"
verdict_text MarkerResponse = codes "marker-response"
verdict_text Data = codes "data"
verdict_text Runt = codes "runt"
verdict_text (Refused e) = refusal_text e
verdict_text NotHex = codes "not hex"
verdict_text TooLong = codes "too long"
