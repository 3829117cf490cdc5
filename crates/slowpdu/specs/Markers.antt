-- The layout of the Marker PDU, and the response to a marker (6.5.3.3, 6.5.4; profile: which fields a receiver reads).
use Rattle.std.specs.Prelude.{ℕ, List, [], ◌∷◌, Option, Some, None}
use Rattle.byteorder.specs.Endian.{big_number}
use Rattle.slowpdu.specs.declared.pdu.MarkerKind.{MarkerKind}
use Rattle.slowpdu.specs.declared.pdu.MarkerKind.TheVariants.{Information, Response}
use Rattle.slowpdu.specs.declared.pdu.Marker.{Marker}
use Rattle.slowpdu.specs.Layout.{Field, read_field, ignored_field, IsAddress, ReadsTable, WritesTable}

-- the TLV type of each kind
abbrev pub tlv_type : MarkerKind → ℕ
tlv_type Information = 1
tlv_type Response = 2

-- The table of a Marker PDU, in order: subtype and version; type and length of the TLV; Requester_Port,
-- Requester_System, Requester_Transaction_ID and the pad; type and length of the Terminator.
abbrev pub marker_table : Marker → List Field
marker_table m =
    read_field 0 1 2 ∷ ignored_field 1 1 1
    ∷ read_field 2 1 (tlv_type m.kind) ∷ read_field 3 1 16
    ∷ read_field 4 2 m.port ∷ read_field 6 6 (big_number 6 m.system) ∷ read_field 12 4 m.id ∷ ignored_field 16 2 0
    ∷ ignored_field 18 1 0 ∷ ignored_field 19 1 0 ∷ []

-- the payload b reads as the Marker PDU m
pub record ReadsMarker (b : List ℕ) (m : Marker) : Type 0 where
  pub address : IsAddress m.system
  pub table : ReadsTable b (marker_table m)

-- b is the payload that is sent for the Marker PDU m
pub record WritesMarker (b : List ℕ) (m : Marker) : Type 0 where
  pub address : IsAddress m.system
  pub table : WritesTable b (marker_table m)

-- the same marker with the response type; None for a response
abbrev pub answer_of : MarkerKind → Marker → Option Marker
answer_of Information m = Some (record m { kind = Response })
answer_of Response m = None

-- the response to a Marker PDU; None if it is itself a response
abbrev pub response_to : Marker → Option Marker
response_to m = answer_of m.kind m
