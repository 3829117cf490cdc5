-- The readings of an LACPDU.
use Rattle.slowpdu.proofs.Common.{List, None, [], ap, arith, drop, length, refl, slice_index, sym, ℕ, ◌++◌, ◌∙◌, ◌∷◌, ◌≡◌, ◌≤◌, AllByRecursion}
use Rattle.slowpdu.proofs.Common.{big_number, octet, Info, Lacpdu, fault_of, Reads, info_fields, lacpdu_table, Field, HoldsNumber, IsAddress}
use Rattle.slowpdu.proofs.Common.{payload_len, read_field, read_fields}
use Rattle.slowpdu.proofs.FaultLemmas.{no_fault_1}
use Rattle.slowpdu.proofs.LayoutLemmas.{one_number, one_table, numbers, octet_stands, all-append, table-append, table_of_append}

abbrev pub number_at : ℕ → List ℕ → ℕ
number_at i ns = slice_index ns i

-- an address with one number
pub one_address : (m n : List ℕ) → IsAddress m → IsAddress n → big_number 6 m ≡ big_number 6 n → m ≡ n
one_address m n hm hn e = one_number 6 m n hm.0 hn.0 hm.1 hn.1 e

abbrev pub make_info : ℕ → List ℕ → ℕ → ℕ → ℕ → ℕ → Info
make_info priority mac key port_priority port state = record {
  system = record { priority = priority; mac = mac };
  key = record { 0 = key };
  port = record { priority = port_priority; number = port };
  state = record { 0 = state };
}

abbrev pub make_lacpdu : Info → Info → ℕ → Lacpdu
make_lacpdu actor partner delay = record { actor = actor; partner = partner; max_delay = delay }

-- the six parameters and the state make an end
same_info : (a b : Info) → a.system.priority ≡ b.system.priority → a.system.mac ≡ b.system.mac → a.key.0 ≡ b.key.0
    → a.port.priority ≡ b.port.priority → a.port.number ≡ b.port.number → octet a.state ≡ octet b.state → a ≡ b
same_info a b priority mac key port_priority port state = grind arith

same_lacpdu : (v w : Lacpdu) → v.actor ≡ w.actor → v.partner ≡ w.partner → v.max_delay ≡ w.max_delay → v ≡ w
same_lacpdu v w actor partner delay = grind arith

abbrev read_numbers : Lacpdu → List ℕ
read_numbers v = numbers (read_fields (lacpdu_table v))

-- a payload has one reading
pub one_reading : (b : List ℕ) (v w : Lacpdu) → Reads b v → Reads b w → w ≡ v
one_reading b v w hv hw = let e : read_numbers w ≡ read_numbers v =
    one_table b (read_fields (lacpdu_table w)) (read_fields (lacpdu_table v)) refl hw.table.fields_hold hv.table.fields_hold in
    same_lacpdu w v (same_info w.actor v.actor (ap (number_at 2) e) (one_address w.actor.system.mac v.actor.system.mac hw.addresses.0 hv.addresses.0
    (ap (number_at 3) e)) (ap (number_at 4) e) (ap (number_at 5) e) (ap (number_at 6) e) (ap (number_at 7) e))
    (same_info w.partner v.partner (ap (number_at 9) e) (one_address w.partner.system.mac v.partner.system.mac hw.addresses.1 hv.addresses.1
    (ap (number_at 10) e)) (ap (number_at 11) e) (ap (number_at 12) e) (ap (number_at 13) e) (ap (number_at 14) e)) (ap (number_at 16) e)

-- what follows changes no reading
pub reads-append : (b rest : List ℕ) (v : Lacpdu) → payload_len ≤ length b → Reads b v → Reads (b ++ rest) v
reads-append b rest v long h = record { addresses = h.addresses; table = table-append b rest (lacpdu_table v) long refl h.table }

pub reads_of_append : (b rest : List ℕ) (v : Lacpdu) → payload_len ≤ length b → Reads (b ++ rest) v → Reads b v
reads_of_append b rest v long h = record { addresses = h.addresses; table = table_of_append b rest (lacpdu_table v) long refl h.table }

-- what the checks and the fields come to
pub all_read : (b : List ℕ) (v : Lacpdu) → payload_len ≤ length b → slice_index b 0 ≡ 1 → slice_index b 3 ≡ 20
    → slice_index b 23 ≡ 20 → slice_index b 43 ≡ 16 → IsAddress v.actor.system.mac → IsAddress v.partner.system.mac → AllByRecursion (HoldsNumber b)
    (info_fields 4 v.actor) → AllByRecursion (HoldsNumber b) (info_fields 24 v.partner) → big_number 2 (drop 44 b) ≡ v.max_delay → Reads b v
all_read b v long subtype actor_length partner_length collector_length actor_mac partner_mac actor partner delay =
    let after : List Field = read_field 43 1 16 ∷ read_field 44 2 v.max_delay ∷ [] in
    let after_stands : AllByRecursion (HoldsNumber b) after = (octet_stands b 43 ∙ collector_length, (delay, tt)) in
    grind (arith, read_field, info_fields, octet_stands, all-append)

-- an LACPDU is not refused
pub no_lacpdu_fault : (b : List ℕ) (v : Lacpdu) → Reads b v → fault_of b ≡ None
no_lacpdu_fault b v h = let s : AllByRecursion (HoldsNumber b) (read_fields (lacpdu_table v)) = h.table.fields_hold in
    no_fault_1 b h.table.long_enough (sym (octet_stands b 0) ∙ s.0) (sym (octet_stands b 3) ∙ s.1.0)
    (sym (octet_stands b 23) ∙ s.1.1.1.1.1.1.1.1.0) (sym (octet_stands b 43) ∙ s.1.1.1.1.1.1.1.1.1.1.1.1.1.1.1.0)
