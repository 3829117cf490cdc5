-- The readings of a Marker PDU.
use Rattle.slowpdu.proofs.Common.{List, None, arith, length, refl, slice_index, ℕ, ◌++◌, ◌≡◌, ◌≤◌, big_number, Lacpdu, Marker, MarkerKind, fault_of}
use Rattle.slowpdu.proofs.Common.{Reads, HoldsNumber, IsAddress, payload_len, read_field, read_fields, ReadsMarker, marker_table, tlv_type}
use Rattle.slowpdu.proofs.LayoutLemmas.{one_table, numbers, table-append, table_of_append}
use Rattle.slowpdu.proofs.LacpduLemmas.{number_at, one_address}

abbrev pub make_marker : MarkerKind → ℕ → List ℕ → ℕ → Marker
make_marker kind port system id = record { kind = kind; port = port; system = system; id = id }

one_kind : (k l : MarkerKind) → tlv_type k ≡ tlv_type l → k ≡ l
one_kind k l e = grind arith

same_marker : (m n : Marker) → m.kind ≡ n.kind → m.port ≡ n.port → m.system ≡ n.system → m.id ≡ n.id → m ≡ n
same_marker m n kind port system id = grind arith

abbrev read_numbers : Marker → List ℕ
read_numbers m = numbers (read_fields (marker_table m))

-- a payload has one reading
pub one_marker : (b : List ℕ) (m n : Marker) → ReadsMarker b m → ReadsMarker b n → n ≡ m
one_marker b m n hm hn = grind (arith, one_table, read_fields, marker_table, same_marker, one_kind, number_at, one_address)

-- what follows changes no reading
pub marker-append : (b rest : List ℕ) (m : Marker) → payload_len ≤ length b → ReadsMarker b m → ReadsMarker (b ++ rest) m
marker-append b rest m long h = record { address = h.address; table = table-append b rest (marker_table m) long refl h.table }

pub marker_of_append : (b rest : List ℕ) (m : Marker) → payload_len ≤ length b → ReadsMarker (b ++ rest) m → ReadsMarker b m
marker_of_append b rest m long h = record { address = h.address; table = table_of_append b rest (marker_table m) long refl h.table }

-- what the checks and the fields come to
pub marker_read : (b : List ℕ) (m : Marker) → payload_len ≤ length b → slice_index b 0 ≡ 2
    → slice_index b 3 ≡ 16 → slice_index b 2 ≡ tlv_type m.kind → HoldsNumber b (read_field 4 2 m.port)
    → IsAddress m.system → HoldsNumber b (read_field 6 6 (big_number 6 m.system)) → HoldsNumber b (read_field 12 4 m.id) → ReadsMarker b m
marker_read b m long subtype size kind port address system id = grind arith

-- a Marker PDU is not refused
pub no_marker_fault : (b : List ℕ) (m : Marker) → ReadsMarker b m → fault_of b ≡ None
no_marker_fault b m h = grind arith

-- the first octet tells the two apart
pub not_both : (b : List ℕ) (v : Lacpdu) (m : Marker) → Reads b v → ReadsMarker b m → ⊥
not_both b v m hv hm = grind arith
