-- A payload that is not refused reads as a PDU.
use Rattle.slowpdu.proofs.Common.{List, None, arith, drop, inl, inr, length, length-drop, refl, slice_index, sym, take, ℕ, ◌+◌, ◌≡◌, ◌≤◌, length-take}
use Rattle.slowpdu.proofs.Common.{AllByRecursion, big_number, Info, Lacpdu, Marker, MarkerKind, Pdu, fault_of, Reads, info_fields, AreOctets}
use Rattle.slowpdu.proofs.Common.{HoldsNumber, IsAddress, payload_len, read_field, ReadsMarker, tlv_type, ReadsPdu}
use Rattle.slowpdu.specs.declared.pdu.MarkerKind.TheVariants.{Information, Response}
use Rattle.slowpdu.specs.declared.pdu.Pdu.TheVariants as pdu
use Rattle.slowpdu.proofs.FaultLemmas.{IsLacpdu, IsMarker, accepted}
use Rattle.slowpdu.proofs.LacpduLemmas.{all_read, make_info, make_lacpdu}
use Rattle.slowpdu.proofs.LayoutLemmas.{number_of_taken, octets-cut}
use Rattle.slowpdu.proofs.MarkerLemmas.{make_marker, marker_read}

-- the number and the address from an offset on
abbrev number_in : ℕ → List ℕ → ℕ → ℕ
number_in width b at = big_number width (drop at b)

abbrev address_in : List ℕ → ℕ → List ℕ
address_in b at = take 6 (drop at b)

is_address : (b : List ℕ) (at : ℕ) → AreOctets b → at + 6 ≤ length b → IsAddress (address_in b at)
is_address b at octets room =
    let six : length (address_in b at) ≡ 6 = omega (arith, length-take 6 (drop at b), length-drop at b) in
    (six, octets-cut b (read_field at 6 0) octets)

-- what is said of one end
abbrev info_in : List ℕ → ℕ → Info
info_in b at = make_info (number_in 2 b at) (address_in b (at + 2)) (number_in 2 b (at + 8))
    (number_in 2 b (at + 10)) (number_in 2 b (at + 12)) (number_in 1 b (at + 14))

info_stands : (b : List ℕ) (at : ℕ) → AllByRecursion (HoldsNumber b) (info_fields at (info_in b at))
info_stands b at = grind arith

an_lacpdu : (b : List ℕ) → AreOctets b → payload_len ≤ length b → IsLacpdu b → (v : Lacpdu) × Reads b v
an_lacpdu b octets long h = let v = make_lacpdu (info_in b 4) (info_in b 24) (number_in 2 b 44) in (
  v,
  all_read b v long h.subtype h.actor h.partner h.collector (is_address b 6 octets (omega arith)) (is_address b 26 octets (omega arith))
      (info_stands b 4) (info_stands b 24) refl,
)

a_marker : (b : List ℕ) → AreOctets b → payload_len ≤ length b → IsMarker b → (k : MarkerKind) → slice_index b 2 ≡ tlv_type k → (m : Marker) × ReadsMarker b m
a_marker b octets long h k kind = let m = make_marker k (number_in 2 b 4) (address_in b 6) (number_in 4 b 12) in
    (m, marker_read b m long h.subtype h.size kind refl (is_address b 6 octets (omega arith)) (sym (number_of_taken 6 (drop 6 b))) refl)

-- what is not refused says something
pub a_reading : (b : List ℕ) → AreOctets b → fault_of b ≡ None → (v : Pdu) × ReadsPdu b v
a_reading b octets h = let parts = accepted b h in
    elim parts.1 [
      | inl lacpdu ↦ let found = an_lacpdu b octets parts.0 lacpdu in (pdu.Lacpdu found.0, found.1)
      | inr marker ↦ elim marker.kind [
        | inl one ↦ let found = a_marker b octets parts.0 marker Information one in (pdu.Marker found.0, found.1)
        | inr two ↦ let found = a_marker b octets parts.0 marker Response two in (pdu.Marker found.0, found.1)
      ]
    ]
