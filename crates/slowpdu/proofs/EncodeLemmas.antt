-- The octets that are written for an LACPDU.
use Rattle.slowpdu.proofs.Common.{List, [], arith, refl, replicate, subst, sym, ℕ, ◌%◌, ◌*◌, ◌++◌, ◌+◌, ◌/◌, ◌<◌, ◌^◌, ◌∷◌, ◌≡◌, AllByRecursion}
use Rattle.slowpdu.proofs.Common.{big_bytes, octet, Lacpdu, Marker, MarkerKind, Writes, info_fields, lacpdu_table, AreOctets, Field, HoldsNumber}
use Rattle.slowpdu.proofs.Common.{IsAddress, ignored_field, read_field, WritesMarker, marker_table, tlv_type, InfoFits, info_octets, replaced}
use Rattle.slowpdu.proofs.LayoutLemmas.{all-append}
use Rattle.slowpdu.proofs.MarkerLemmas.{make_marker}
use Rattle.slowpdu.proofs.WritingLemmas.{others_zero, six}
use Rattle.slowpdu.proofs.LacpduLemmas.{make_info, make_lacpdu}

-- the octets that `encode` puts, in its order
abbrev pub encoded : Lacpdu → List ℕ
encoded v = let zeros : List ℕ = replicate 110 0 in
    let actor = replaced (replaced zeros 0 (1 ∷ 1 ∷ 1 ∷ 20 ∷ [])) 4 (info_octets v.actor) in
    let partner = replaced (replaced actor 22 (2 ∷ 20 ∷ [])) 24 (info_octets v.partner) in
    replaced (replaced partner 42 (3 ∷ 16 ∷ [])) 44 (big_bytes 2 v.max_delay)

two_bytes : (n : ℕ) → n < 2 ^ 16 → n / 256 % 256 * 256 + (n % 256 * 1 + 0) ≡ n
two_bytes n h = omega arith

pub written_cells : (p k q n s p' k' q' n' s' t a b c d e f a' b' c' d' e' f' : ℕ)
    → let v : Lacpdu = make_lacpdu (make_info p (a ∷ b ∷ c ∷ d ∷ e ∷ f ∷ []) k q n s)
    (make_info p' (a' ∷ b' ∷ c' ∷ d' ∷ e' ∷ f' ∷ []) k' q' n' s') t in
    InfoFits v.actor → InfoFits v.partner → t < 2 ^ 16 → AreOctets (encoded v) → Writes (encoded v) v
written_cells p k q n s p' k' q' n' s' t a b c d e f a' b' c' d' e' f' = λ fits fits' delay octets.
    let v : Lacpdu =
    make_lacpdu (make_info p (a ∷ b ∷ c ∷ d ∷ e ∷ f ∷ []) k q n s) (make_info p' (a' ∷ b' ∷ c' ∷ d' ∷ e' ∷ f' ∷ []) k' q' n' s') t in
    let octet_alone : s * 1 + 0 ≡ s = omega arith in
    let octet_alone' : s' * 1 + 0 ≡ s' = omega arith in
    let actor : AllByRecursion (HoldsNumber (encoded v)) (info_fields 4 v.actor) = (
      two_bytes p fits.system_priority,
      (refl, (two_bytes k fits.key, (two_bytes q fits.port_priority, (two_bytes n fits.port, (octet_alone, tt))))),
    ) in
    let partner : AllByRecursion (HoldsNumber (encoded v)) (info_fields 24 v.partner) = (
      two_bytes p' fits'.system_priority,
      (refl, (two_bytes k' fits'.key, (two_bytes q' fits'.port_priority, (two_bytes n' fits'.port, (octet_alone', tt))))),
    ) in
    let collector : List Field = ignored_field 42 1 3 ∷ read_field 43 1 16 ∷ read_field 44 2 t ∷ ignored_field 58 1 0 ∷ ignored_field 59 1 0 ∷ [] in
    let last : AllByRecursion (HoldsNumber (encoded v)) collector = (refl, (refl, (two_bytes t delay, (refl, (refl, tt))))) in
    let partner_on : List Field = ignored_field 22 1 2 ∷ read_field 23 1 20 ∷ (info_fields 24 v.partner ++ collector) in
    let second : AllByRecursion (HoldsNumber (encoded v)) partner_on =
    (refl, (refl, all-append (HoldsNumber (encoded v)) (info_fields 24 v.partner) collector partner last)) in
    record {
      addresses = (fits.address, fits'.address);
      table = record {
        whole = refl;
        octets = octets;
        fields_hold = (refl, (refl, (refl, (refl, all-append (HoldsNumber (encoded v)) (info_fields 4 v.actor) partner_on actor second))));
        others = others_zero (lacpdu_table v) (encoded v) refl;
      };
    }

abbrev with_macs : Lacpdu → List ℕ → List ℕ → Lacpdu
with_macs v m n = make_lacpdu (make_info v.actor.system.priority m v.actor.key.0 v.actor.port.priority v.actor.port.number (octet v.actor.state))
    (make_info v.partner.system.priority n v.partner.key.0 v.partner.port.priority v.partner.port.number (octet v.partner.state)) v.max_delay

abbrev Claim : Lacpdu → Type 0
Claim v = InfoFits v.actor → InfoFits v.partner → v.max_delay < 2 ^ 16 → AreOctets (encoded v) → Writes (encoded v) v

claim : (v : Lacpdu) → InfoFits v.actor → InfoFits v.partner → Claim v
claim v actor partner = let x = six v.actor.system.mac actor.address.0 in
    let y = six v.partner.system.mac partner.address.0 in
    let cells = written_cells v.actor.system.priority v.actor.key.0 v.actor.port.priority v.actor.port.number
    (octet v.actor.state) v.partner.system.priority v.partner.key.0 v.partner.port.priority v.partner.port.number
    (octet v.partner.state) v.max_delay x.0 x.1 x.2 x.3 x.4 x.5 y.0 y.1 y.2 y.3 y.4 y.5 in
    let n : List ℕ = y.0 ∷ y.1 ∷ y.2 ∷ y.3 ∷ y.4 ∷ y.5 ∷ [] in
    subst (λ (t : List ℕ). Claim (with_macs v v.actor.system.mac t)) (sym y.6) (subst (λ (t : List ℕ). Claim (with_macs v t n)) (sym x.6) cells)

pub written : (v : Lacpdu) (b : List ℕ) → b ≡ encoded v → InfoFits v.actor → InfoFits v.partner → v.max_delay < 2 ^ 16 → AreOctets b → Writes b v
written v b e actor partner delay octets =
    subst (λ (t : List ℕ). AreOctets t → Writes t v) (sym e) (claim v actor partner actor partner delay) octets

-- the writes of `encode`, one after the other
pub all_put : (v : Lacpdu) (p1 p2 p3 p4 p5 p6 : List ℕ) → p1 ≡ replaced (replicate 110 0) 0 (1 ∷ 1 ∷ 1 ∷ 20 ∷ [])
    → p2 ≡ replaced p1 4 (info_octets v.actor) → p3 ≡ replaced p2 22 (2 ∷ 20 ∷ []) → p4 ≡ replaced p3 24 (info_octets v.partner)
    → p5 ≡ replaced p4 42 (3 ∷ 16 ∷ []) → p6 ≡ replaced p5 44 (big_bytes 2 v.max_delay) → p6 ≡ encoded v
all_put v p1 p2 p3 p4 p5 p6 e1 e2 e3 e4 e5 e6 = grind arith

-- the octets that `encode` puts for a marker, in its order
abbrev pub encoded_marker : Marker → List ℕ
encoded_marker m = replaced
    (replaced (replaced (replaced (replicate 110 0) 0 (2 ∷ 1 ∷ tlv_type m.kind ∷ 16 ∷ [])) 4 (big_bytes 2 m.port)) 6 m.system) 12 (big_bytes 4 m.id)

marker_cells : (k : MarkerKind) (p id a b c d e f : ℕ) → let m : Marker = make_marker k p (a ∷ b ∷ c ∷ d ∷ e ∷ f ∷ []) id in
    p < 2 ^ 16 → id < 2 ^ 32 → IsAddress m.system → AreOctets (encoded_marker m) → WritesMarker (encoded_marker m) m
marker_cells k p id a b c d e f = λ port transaction address octets.
    let m : Marker = make_marker k p (a ∷ b ∷ c ∷ d ∷ e ∷ f ∷ []) id in record {
      address = address;
      table = record {
        whole = refl;
        octets = octets;
        fields_hold = (refl, (refl, (omega arith, (refl, (two_bytes p port, (refl, (omega arith, (refl, (refl, (refl, tt))))))))));
        others = others_zero (marker_table m) (encoded_marker m) refl;
      };
    }

abbrev MarkerClaim : Marker → Type 0
MarkerClaim m = m.port < 2 ^ 16 → m.id < 2 ^ 32 → IsAddress m.system → AreOctets (encoded_marker m) → WritesMarker (encoded_marker m) m

marker_claim : (m : Marker) → IsAddress m.system → MarkerClaim m
marker_claim m address = let x = six m.system address.0 in
    subst (λ (t : List ℕ). MarkerClaim (make_marker m.kind m.port t m.id)) (sym x.6) (marker_cells m.kind m.port m.id x.0 x.1 x.2 x.3 x.4 x.5)

pub marker_written : (m : Marker) (b : List ℕ) → b ≡ encoded_marker m → m.port < 2 ^ 16 → m.id < 2 ^ 32 → IsAddress m.system → AreOctets b → WritesMarker b m
marker_written m b e port id address octets =
    subst (λ (t : List ℕ). AreOctets t → WritesMarker t m) (sym e) (marker_claim m address port id address) octets

-- the writes of `encode` for a marker, one after the other
pub all_put_marker : (m : Marker) (n : ℕ) (p1 p2 p3 p4 : List ℕ) → n ≡ tlv_type m.kind → p1 ≡ replaced (replicate 110 0) 0 (2 ∷ 1 ∷ n ∷ 16 ∷ [])
    → p2 ≡ replaced p1 4 (big_bytes 2 m.port) → p3 ≡ replaced p2 6 m.system → p4 ≡ replaced p3 12 (big_bytes 4 m.id) → p4 ≡ encoded_marker m
all_put_marker m n p1 p2 p3 p4 en e1 e2 e3 e4 = grind arith
