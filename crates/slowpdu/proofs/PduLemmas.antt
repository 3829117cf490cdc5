-- The readings of a PDU of either kind.
use Rattle.slowpdu.proofs.Common.{Err, List, None, Ok, Result, Some, ap, arith, drop, inl, inr, length, refl, subst, sym, take, take-append-drop}
use Rattle.slowpdu.proofs.Common.{take_all, ℕ, ◌++◌, ◌<◌, ◌↔◌, ◌∙◌, ◌≡◌, ◌≤◌, cases_lt, length-take, Pdu, fault_of, lacpdu_table, payload_len}
use Rattle.slowpdu.proofs.Common.{marker_table, IsDecoded, ReadsPdu, WritesPdu}
use Rattle.slowpdu.specs.declared.fault.WireFault.{WireFault}
use Rattle.slowpdu.specs.declared.pdu.Pdu.TheVariants as pdu
use Rattle.slowpdu.proofs.FaultLemmas.{fault-append}
use Rattle.slowpdu.proofs.LayoutLemmas.{one_payload}
use Rattle.slowpdu.proofs.LacpduLemmas.{one_reading, no_lacpdu_fault, reads-append, reads_of_append}
use Rattle.slowpdu.proofs.MarkerLemmas.{one_marker, no_marker_fault, marker-append, marker_of_append}

-- a payload has one reading
pub one_pdu : (b : List ℕ) (v w : Pdu) → ReadsPdu b v → ReadsPdu b w → w ≡ v
one_pdu b v w hv hw = grind (arith, one_reading, one_marker)

-- and is then not refused
pub no_fault : (b : List ℕ) (v : Pdu) → ReadsPdu b v → fault_of b ≡ None
no_fault b v h = grind (arith, no_lacpdu_fault, no_marker_fault)

-- what follows the first 110 octets changes no reading
pub reads_pdu-append : (b rest : List ℕ) (v : Pdu) → payload_len ≤ length b → ReadsPdu b v → ReadsPdu (b ++ rest) v
reads_pdu-append b rest v long h = grind (arith, reads-append, marker-append)

reads_pdu_of_append : (b rest : List ℕ) (v : Pdu) → payload_len ≤ length b → ReadsPdu (b ++ rest) v → ReadsPdu b v
reads_pdu_of_append b rest v long h = grind (arith, reads_of_append, marker_of_append)

pub rest_ignored : (b rest : List ℕ) (v : Pdu) → payload_len ≤ length b → (ReadsPdu (b ++ rest) v ↔ ReadsPdu b v)
rest_ignored b rest v long = (reads_pdu_of_append b rest v long, reads_pdu-append b rest v long)

-- what is written is read
pub written_pdu : (b : List ℕ) (v : Pdu) → WritesPdu b v → ReadsPdu b v
written_pdu b v h = grind arith

pub written_length : (b : List ℕ) (v : Pdu) → WritesPdu b v → length b ≡ payload_len
written_length b v h = grind arith

-- whatever follows
pub written_before : (b rest : List ℕ) (v : Pdu) → WritesPdu b v → ReadsPdu (b ++ rest) v
written_before b rest v h = reads_pdu-append b rest v (omega (arith, written_length b v h)) (written_pdu b v h)

abbrev pub ok : Pdu → Result Pdu WireFault
ok v = Ok v

-- what is read is not refused
read_not_refused : {X : Type 0} (b : List ℕ) (v : Pdu) (e : WireFault) → ReadsPdu b v → fault_of b ≡ Some e → X
read_not_refused b v e hv he = let no = no_fault b v hv in absurd cc

-- a payload decodes to its reading alone
pub decoded_only : (b : List ℕ) (r : Result Pdu WireFault) → IsDecoded b r → (v : Pdu) → ReadsPdu b v → r ≡ ok v
decoded_only b (Ok w) h v hv = ap ok (sym (one_pdu b w v h hv))
decoded_only b (Err e) h v hv = read_not_refused b v e hv h

-- the first 110 octets and what follows them
cut_here : (b : List ℕ) → take payload_len b ++ drop payload_len b ≡ b
cut_here b = take-append-drop payload_len b

short_whole : (b : List ℕ) → length b < payload_len → take payload_len b ≡ b
short_whole b h = take_all payload_len b (omega arith)

first_of_long : (b : List ℕ) (r : Result Pdu WireFault) → payload_len ≤ length b → IsDecoded b r → IsDecoded (take payload_len b) r
first_of_long b (Ok v) long h =
    let enough : payload_len ≤ length (take payload_len b) = omega (arith, length-take payload_len b) in
    reads_pdu_of_append (take payload_len b) (drop payload_len b) v enough (subst (λ (t : List ℕ). ReadsPdu t v) (sym (cut_here b)) h)
first_of_long b (Err e) long h =
    let enough : payload_len ≤ length (take payload_len b) = omega (arith, length-take payload_len b) in
    sym (fault-append (take payload_len b) (drop payload_len b) enough) ∙ ap fault_of (cut_here b) ∙ h

pub first_decide : (b : List ℕ) (r : Result Pdu WireFault) → IsDecoded b r → IsDecoded (take payload_len b) r
first_decide b r h = elim (cases_lt (length b) payload_len) [
  | inl short ↦ subst (λ (t : List ℕ). IsDecoded t r) (sym (short_whole b short)) h
  | inr long ↦ first_of_long b r long h
]

-- there is one payload to send
pub one_written : (b c : List ℕ) (v : Pdu) → WritesPdu b v → WritesPdu c v → b ≡ c
one_written b c (pdu.Lacpdu v) hb hc = one_payload b c (lacpdu_table v) refl hb.table hc.table
one_written b c (pdu.Marker m) hb hc = one_payload b c (marker_table m) refl hb.table hc.table
