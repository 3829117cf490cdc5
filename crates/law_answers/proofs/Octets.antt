-- What is written are octets, each below 256.
use native.Mathlib.Omega.{arith}
use Rattle.std.proofs.Common.{List, [], drop, length, replicate, subst, suc, take, zero, ℕ, ◌++◌, ◌+◌, ◌<◌, ◌^◌, ◌∷◌, ◌≡◌, refl, get_or-drop}
use Rattle.std.specs.List.{AllByRecursion}
use Rattle.byteorder.specs.Endian.{big_bytes, big_number}
use Rattle.byteorder.specs.Numbers.{big_from-lt}
use Rattle.lagtypes.specs.Octet.{octet}
use Rattle.slowpdu.specs.declared.pdu.Info.{Info}
use Rattle.slowpdu.specs.declared.pdu.Lacpdu.{Lacpdu}
use Rattle.slowpdu.specs.declared.pdu.Marker.{Marker}
use Rattle.slowpdu.specs.Lacpdus.{Reads, Writes}
use Rattle.slowpdu.specs.Layout.{AreOctets, IsAddress}
use Rattle.slowpdu.specs.Markers.{ReadsMarker, WritesMarker, tlv_type}
use Rattle.slowpdu.specs.declared.pdu.MarkerKind.{MarkerKind}
use Rattle.slowpdu.specs.declared.pdu.MarkerKind.TheVariants.{Information, Response}
use Rattle.slowpdu.specs.Writing.{InfoFits, info_octets, replaced}
use Rattle.slowpdu.proofs.EncodeLemmas.{encoded, encoded_marker, marker_written, written}
use Rattle.slowpdu.proofs.LayoutLemmas.{all-append}

abbrev IsOctet : ℕ → Type 0
IsOctet n = n < 256

abbrev Each : List ℕ → Type 0
Each b = AllByRecursion IsOctet b

each_taken : (n : ℕ) (b : List ℕ) → Each b → Each (take n b)
each_taken zero b h = tt
each_taken (suc n) [] h = tt
each_taken (suc n) (x ∷ b) h = (h.0, each_taken n b h.1)

each_left : (n : ℕ) (b : List ℕ) → Each b → Each (drop n b)
each_left zero b h = h
each_left (suc n) [] h = tt
each_left (suc n) (x ∷ b) h = each_left n b h.1

are_octets : (b : List ℕ) → Each b → AreOctets b
are_octets [] h i = omega arith
are_octets (x ∷ b) h zero = h.0
are_octets (x ∷ b) h (suc i) = are_octets b h.1 i

each_octet : (b : List ℕ) → AreOctets b → Each b
each_octet [] h = tt
each_octet (x ∷ b) h = (h 0, each_octet b (λ i. h (suc i)))

put_octets : (b : List ℕ) (n : ℕ) (xs : List ℕ) → Each b → Each xs → Each (replaced b n xs)
put_octets b n xs h k = all-append IsOctet (take n b) (xs ++ drop (n + length xs) b) (each_taken n b h)
    (all-append IsOctet xs (drop (n + length xs) b) k (each_left (n + length xs) b h))

zeros : (n : ℕ) → Each (replicate n 0)
zeros zero = tt
zeros (suc n) = (omega arith, zeros n)

two_octets : (n : ℕ) → Each (big_bytes 2 n)
two_octets n = (omega arith, (omega arith, tt))

four_octets : (n : ℕ) → Each (big_bytes 4 n)
four_octets n = (omega arith, (omega arith, (omega arith, (omega arith, tt))))

end_octets : (v : Info) → InfoFits v → octet v.state < 256 → Each (info_octets v)
end_octets v fits state =
    all-append IsOctet (big_bytes 2 v.system.priority) (v.system.mac ++ (big_bytes 2 v.key.0 ++ (big_bytes 2 v.port.priority
    ++ (big_bytes 2 v.port.number ++ octet v.state ∷ [])))) (two_octets v.system.priority)
    (all-append IsOctet v.system.mac (big_bytes 2 v.key.0 ++ (big_bytes 2 v.port.priority
    ++ (big_bytes 2 v.port.number ++ octet v.state ∷ []))) (each_octet v.system.mac fits.address.1)
    (all-append IsOctet (big_bytes 2 v.key.0) (big_bytes 2 v.port.priority
    ++ (big_bytes 2 v.port.number ++ octet v.state ∷ [])) (two_octets v.key.0)
    (all-append IsOctet (big_bytes 2 v.port.priority) (big_bytes 2 v.port.number ++ octet v.state ∷ []) (two_octets v.port.priority)
    (all-append IsOctet (big_bytes 2 v.port.number) (octet v.state ∷ []) (two_octets v.port.number) (state, tt)))))

pub lacpdu_octets : (v : Lacpdu) → InfoFits v.actor → octet v.actor.state < 256 → InfoFits v.partner → octet v.partner.state < 256
    → v.max_delay < 2 ^ 16 → Writes (encoded v) v
lacpdu_octets v actor bits partner others delay =
    let blank = replicate 110 0 in
    let one = replaced blank 0 (1 ∷ 1 ∷ 1 ∷ 20 ∷ []) in
    let two = replaced one 4 (info_octets v.actor) in
    let three = replaced two 22 (2 ∷ 20 ∷ []) in
    let four = replaced three 24 (info_octets v.partner) in
    let five = replaced four 42 (3 ∷ 16 ∷ []) in
    let each : Each (encoded v) = put_octets five 44 (big_bytes 2 v.max_delay)
    (put_octets four 42 (3 ∷ 16 ∷ [])
    (put_octets three 24 (info_octets v.partner)
    (put_octets two 22 (2 ∷ 20 ∷ [])
    (put_octets one 4 (info_octets v.actor) (put_octets blank 0 (1 ∷ 1 ∷ 1 ∷ 20 ∷ []) (zeros 110) (omega arith, (omega arith, (omega arith, (omega arith, tt)))))
    (end_octets v.actor actor bits)) (omega arith, (omega arith, tt)))
    (end_octets v.partner partner others)) (omega arith, (omega arith, tt))) (two_octets v.max_delay) in
    written v (encoded v) refl actor partner delay (are_octets (encoded v) each)

kind_octet : (k : MarkerKind) → tlv_type k < 256
kind_octet Information = omega arith
kind_octet Response = omega arith

pub marker_octets : (m : Marker) → m.port < 2 ^ 16 → m.id < 2 ^ 32 → IsAddress m.system → WritesMarker (encoded_marker m) m
marker_octets m port id address =
    let blank = replicate 110 0 in
    let head = 2 ∷ 1 ∷ tlv_type m.kind ∷ 16 ∷ [] in
    let one = replaced blank 0 head in
    let two = replaced one 4 (big_bytes 2 m.port) in
    let three = replaced two 6 m.system in
    let each : Each (encoded_marker m) = put_octets three 12 (big_bytes 4 m.id)
    (put_octets two 6 m.system (put_octets one 4 (big_bytes 2 m.port)
    (put_octets blank 0 head (zeros 110) (omega arith, (omega arith, (kind_octet m.kind, (omega arith, tt))))) (two_octets m.port))
    (each_octet m.system address.1)) (four_octets m.id) in
    marker_written m (encoded_marker m) refl port id address (are_octets (encoded_marker m) each)

-- what is read of octets

pub left_octets : (n : ℕ) (b : List ℕ) → AreOctets b → AreOctets (drop n b)
left_octets n b h i = grind (arith, drop, get_or-drop)

read_fits : (b : List ℕ) (width at n : ℕ) → AreOctets b → big_number width (drop at b) ≡ n → n < 256 ^ width
read_fits b width at n h e = subst (λ m. m < 256 ^ width) e (big_from-lt 0 width (drop at b) (left_octets at b h))

pub actor_fits : (b : List ℕ) (v : Lacpdu) → AreOctets b → Reads b v → InfoFits v.actor × (octet v.actor.state < 256)
actor_fits b v h r = let f = r.table.fields_hold.1.1 in (
  record {
    address = r.addresses.0;
    system_priority = read_fits b 2 4 v.actor.system.priority h f.0;
    key = read_fits b 2 12 v.actor.key.0 h f.1.1.0;
    port_priority = read_fits b 2 14 v.actor.port.priority h f.1.1.1.0;
    port = read_fits b 2 16 v.actor.port.number h f.1.1.1.1.0;
  },
  read_fits b 1 18 (octet v.actor.state) h f.1.1.1.1.1.0,
)

pub marker_fits : (b : List ℕ) (m : Marker) → AreOctets b → ReadsMarker b m → (m.port < 2 ^ 16) × (m.id < 2 ^ 32)
marker_fits b m h r = let f = r.table.fields_hold.1.1.1 in (read_fits b 2 4 m.port h f.0, read_fits b 4 12 m.id h f.1.1.0)
