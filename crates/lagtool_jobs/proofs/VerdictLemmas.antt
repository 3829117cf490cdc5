-- The verdict on a payload that reads as a PDU.
use Rattle.lagtool_jobs.proofs.Common.{List, ap, cond, refl, slice_index, sym, ℕ, ◌==◌, ◌∙◌, ◌≡◌, kind_verdict, payload_verdict, verdict_in}
use Rattle.slowpdu.specs.Lacpdus.{Reads}
use Rattle.slowpdu.specs.Markers.{ReadsMarker, tlv_type}
use Rattle.slowpdu.specs.declared.pdu.Lacpdu.{Lacpdu}
use Rattle.slowpdu.specs.declared.pdu.Marker.{Marker}
use Rattle.slowpdu.specs.declared.pdu.MarkerKind.{MarkerKind}
use Rattle.slowpdu.specs.declared.pdu.MarkerKind.TheVariants.{Information, Response}
use Rattle.slowpdu.specs.declared.pdu.Pdu.TheVariants as pdu
use Rattle.slowpdu.proofs.LayoutLemmas.{octet_stands}
use Rattle.slowpdu.proofs.PduLemmas.{no_fault}
use Rattle.lagtool_jobs.specs.declared.verdict.Verdict.TheVariants as verdict

pub lacpdu_verdict : (b : List ℕ) (v : Lacpdu) → Reads b v → payload_verdict b ≡ verdict.Lacpdu
lacpdu_verdict b v h = let first : slice_index b 0 ≡ 1 = sym (octet_stands b 0) ∙ h.table.fields_hold.0 in
    ap (verdict_in b) (no_fault b (pdu.Lacpdu v) h)
    ∙ ap (λ n. cond (n == 1) verdict.Lacpdu (cond (slice_index b 2 == 1) verdict.Marker verdict.MarkerResponse)) first

of_number : (k : MarkerKind) → cond (tlv_type k == 1) verdict.Marker verdict.MarkerResponse ≡ kind_verdict k
of_number Information = refl
of_number Response = refl

pub marker_verdict : (b : List ℕ) (m : Marker) → ReadsMarker b m → payload_verdict b ≡ kind_verdict m.kind
marker_verdict b m h = let first : slice_index b 0 ≡ 2 = sym (octet_stands b 0) ∙ h.table.fields_hold.0 in
    let type : slice_index b 2 ≡ tlv_type m.kind = sym (octet_stands b 2) ∙ h.table.fields_hold.1.0 in
    ap (verdict_in b) (no_fault b (pdu.Marker m) h)
    ∙ ap (λ n. cond (n == 1) verdict.Lacpdu (cond (slice_index b 2 == 1) verdict.Marker verdict.MarkerResponse)) first
    ∙ ap (λ n. cond (n == 1) verdict.Marker verdict.MarkerResponse) type ∙ of_number m.kind
