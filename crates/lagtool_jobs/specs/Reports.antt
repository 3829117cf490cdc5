-- The text for a payload, and for a frame (profile).
use Rattle.std.specs.Prelude.{◌≡◌, ◌++◌, ℕ, Bool, true, false, List, [], ◌∷◌, Option, Some, None, Result, Ok, Err, codes, length}
use Rattle.hex.specs.Hex.{decode_of, encode_lower}
use Rattle.slowpdu.specs.declared.pdu.Pdu.{Pdu}
use Rattle.slowpdu.specs.declared.pdu.Pdu.TheVariants as pdu
use Rattle.slowpdu.specs.declared.pdu.Marker.{Marker}
use Rattle.slowpdu.specs.declared.fault.WireFault.{WireFault}
use Rattle.slowpdu.specs.declared.frames.Kind.{Kind}
use Rattle.slowpdu.specs.declared.frames.Kind.TheVariants.{Control, Data, TooShort}
use Rattle.slowpdu.specs.Pdus.{IsDecoded}
use Rattle.slowpdu.specs.Markers.{WritesMarker, response_to}
use Rattle.slowpdu.specs.Frames.{IsFrameOfKind, frame_octets}
use Rattle.lagtool_jobs.specs.Texts.{pdu_text, wire_fault_text}

-- the lines that `decode` prints for the PDU in a payload, or for why the payload is refused
abbrev pub decoded_text : Result Pdu WireFault → List ℕ
decoded_text (Ok v) = pdu_text v
decoded_text (Err e) = wire_fault_text e

-- the payload has a PDU
abbrev pub payload_is_accepted : Result Pdu WireFault → Bool
payload_is_accepted (Ok v) = true
payload_is_accepted (Err e) = false

-- the text that `decode` prints for a payload, and whether it is accepted
pub record IsTextOfPayload (payload text : List ℕ) (accepted : Bool) : Type 0 where
  pub decoded : Result Pdu WireFault
  pub is_decoded : IsDecoded payload decoded
  pub says : text ≡ decoded_text decoded
  pub verdict : accepted ≡ payload_is_accepted decoded

-- the text that `decode` prints for a payload in hexadecimal, and whether it is accepted
pub record IsTextOfHex (hex text : List ℕ) (accepted : Bool) : Type 0 where
  pub payload : List ℕ
  pub digits : decode_of hex ≡ Ok payload
  pub report : IsTextOfPayload payload text accepted

-- the frame gets no response, and the text is the line that says why
abbrev pub IsTextOfNoAnswer : List ℕ → Bool → List ℕ → Type 0
IsTextOfNoAnswer text answered why = (text ≡ why) × (answered ≡ false)

-- The text that `respond` prints for a marker: the frame of its response in lower-case hexadecimal; or the line that
-- says that a Marker Response gets none.
abbrev pub IsAnswerToMarker : List ℕ → List ℕ → Bool → Option Marker → Type 0
IsAnswerToMarker mac text answered None = IsTextOfNoAnswer text answered (codes "no answer marker-response\n")
IsAnswerToMarker mac text answered (Some m) =
    (payload : List ℕ) × WritesMarker payload m × (text ≡ encode_lower (frame_octets mac payload) ++ 10 ∷ []) × (answered ≡ true)

-- the text that `respond` prints for a decoded payload, and whether that gets a response
abbrev pub IsAnswerToDecoded : List ℕ → List ℕ → Bool → Result Pdu WireFault → Type 0
IsAnswerToDecoded mac text answered (Ok (pdu.Marker m)) = IsAnswerToMarker mac text answered (response_to m)
IsAnswerToDecoded mac text answered (Ok (pdu.Lacpdu v)) = IsTextOfNoAnswer text answered (codes "no answer lacpdu\n")
IsAnswerToDecoded mac text answered (Err e) = IsTextOfNoAnswer text answered (wire_fault_text e)

-- the text that `respond` prints for the payload of a control frame, and whether that gets a response
abbrev pub IsAnswerToPayload : List ℕ → List ℕ → List ℕ → Bool → Type 0
IsAnswerToPayload mac payload text answered = (decoded : Result Pdu WireFault) × IsDecoded payload decoded
    × IsAnswerToDecoded mac text answered decoded

-- the text that `respond` prints for a frame of this kind, and whether that gets a response
abbrev pub IsAnswerToKind : List ℕ → List ℕ → Bool → Kind → Type 0
IsAnswerToKind mac text answered (Control payload) = IsAnswerToPayload mac payload.now text answered
IsAnswerToKind mac text answered Data = IsTextOfNoAnswer text answered (codes "no answer data\n")
IsAnswerToKind mac text answered TooShort = IsTextOfNoAnswer text answered (codes "no answer runt\n")

-- the text that `respond` prints for the octets of a frame, and whether the frame gets a response
pub record IsAnswerToFrame (mac octets text : List ℕ) (answered : Bool) : Type 0 where
  pub kind : Kind
  pub is_kind : IsFrameOfKind octets kind
  pub answers : IsAnswerToKind mac text answered kind

-- the text has twelve hexadecimal digits, and they are this MAC address
pub record IsMac (text mac : List ℕ) : Type 0 where
  pub twelve : length text ≡ 12
  pub digits : decode_of text ≡ Ok mac

-- the text that `respond` prints for a MAC address and a frame, both in hexadecimal, and whether the frame gets a
-- response
pub record IsAnswerToHex (mac hex text : List ℕ) (answered : Bool) : Type 0 where
  pub source : List ℕ
  pub address : IsMac mac source
  pub octets : List ℕ
  pub digits : decode_of hex ≡ Ok octets
  pub reply : IsAnswerToFrame source octets text answered
