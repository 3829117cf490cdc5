-- The reading of a payload as a function gives the PDU that the payload reads as.
use Rattle.slowpdu.proofs.Common.{List, ap, arith, refl, ℕ, ◌+◌, ◌≡◌, big_number, Info, Lacpdu, Marker, MarkerKind, Pdu, Reads, IsAddress}
use Rattle.slowpdu.proofs.Common.{ReadsMarker, tlv_type, ReadsPdu}
use Rattle.std.specs.Int.{bytes_high_first}
use Rattle.slowpdu.specs.declared.pdu.Pdu.TheVariants as pdu
use Rattle.slowpdu.specs.Readings.{number_at, address_in, info_at, lacpdu_in, kind_of_tlv_type, marker_in, pdu_in}
use Rattle.slowpdu.proofs.LacpduLemmas.{one_address, make_info, make_lacpdu}
use Rattle.slowpdu.proofs.MarkerLemmas.{make_marker}

address_is : (n : ℕ) (mac : List ℕ) → n ≡ big_number 6 mac → IsAddress mac → bytes_high_first 6 n ≡ mac
address_is n mac e h = grind (arith, one_address)

same_info : (a b c d e : ℕ) (mac : List ℕ) (v : Info) → a ≡ v.system.priority → mac ≡ v.system.mac → b ≡ v.key.0 → c ≡ v.port.priority
    → d ≡ v.port.number → e ≡ v.state.0 → make_info a mac b c d e ≡ v
same_info a b c d e mac v priority same key port_priority port state = rw (priority, same, key, port_priority, port, state) refl

same_lacpdu : (a b : Info) (n : ℕ) (v : Lacpdu) → a ≡ v.actor → b ≡ v.partner → n ≡ v.max_delay → make_lacpdu a b n ≡ v
same_lacpdu a b n v actor partner delay = rw (actor, partner, delay) refl

-- the six places of one end, by what stands in them
info_read : (b : List ℕ) (at : ℕ) (v : Info) → IsAddress v.system.mac → number_at b at 2 ≡ v.system.priority
    → number_at b (at + 2) 6 ≡ big_number 6 v.system.mac → number_at b (at + 8) 2 ≡ v.key.0
    → number_at b (at + 10) 2 ≡ v.port.priority → number_at b (at + 12) 2 ≡ v.port.number → number_at b (at + 14) 1 ≡ v.state.0 → info_at b at ≡ v
info_read b at v h priority mac key port_priority port state = grind (arith, same_info, number_at, address_is)

-- behind the subtype and a length stand the places of the actor, behind them a length and those of the partner
lacpdu_read : (b : List ℕ) (v : Lacpdu) → Reads b v → lacpdu_in b ≡ v
unfolding lacpdu_in
lacpdu_read b v h = let actor = h.table.fields_hold.1.1 in
    let partner = actor.1.1.1.1.1.1.1 in
    let delay = partner.1.1.1.1.1.1.1 in
    same_lacpdu (info_at b 4) (info_at b 24)
    (number_at b 44 2) v (info_read b 4 v.actor h.addresses.0 actor.0 actor.1.0 actor.1.1.0 actor.1.1.1.0 actor.1.1.1.1.0 actor.1.1.1.1.1.0)
    (info_read b 24 v.partner h.addresses.1 partner.0 partner.1.0 partner.1.1.0 partner.1.1.1.0 partner.1.1.1.1.0 partner.1.1.1.1.1.0) delay.0

same_marker : (k : MarkerKind) (port id : ℕ) (mac : List ℕ) (m : Marker) → k ≡ m.kind → port ≡ m.port → mac ≡ m.system → id ≡ m.id
    → make_marker k port mac id ≡ m
same_marker k port id mac m kind at system ident = rw (kind, at, system, ident) refl

kind_is : (n : ℕ) (k : MarkerKind) → n ≡ tlv_type k → kind_of_tlv_type n ≡ k
kind_is n k e = grind arith

marker_read : (b : List ℕ) (m : Marker) → ReadsMarker b m → marker_in b ≡ m
unfolding marker_in
marker_read b m h = let kind = h.table.fields_hold.1 in
    let port = kind.1.1 in
    same_marker (kind_of_tlv_type (number_at b 2 1)) (number_at b 4 2) (number_at b 12 4) (address_in b 6) m
    (kind_is (number_at b 2 1) m.kind kind.0) port.0 (address_is (number_at b 6 6) m.system port.1.0 h.address) port.1.1.0

-- each reading is this one
pub pdu_read : (b : List ℕ) (v : Pdu) → ReadsPdu b v → pdu_in b ≡ v
unfolding pdu_in
pdu_read b (pdu.Lacpdu v) h = let e : number_at b 0 1 ≡ 1 = h.table.fields_hold.0 in rw e (ap pdu.Lacpdu (lacpdu_read b v h))
pdu_read b (pdu.Marker m) h = let e : number_at b 0 1 ≡ 2 = h.table.fields_hold.0 in rw e (ap pdu.Marker (marker_read b m h))
