use Rattle.slowpdu.proofs.Common.{ap, sym, ◌∙◌}
use Rattle.slowpdu.specs.declared.pdu.Pdu.TheVariants as pdu
use Rattle.slowpdu.proofs.PduLemmas.{ok, written_pdu}
use Rattle.slowpdu.proofs.laws.encode_then_decode.Goals as goal

pub returns-in-Lacpdu : goal.returns-in-Lacpdu
returns-in-Lacpdu c = let v = pdu.Lacpdu c.in-Lacpdu.lacpdu in
    c.decode.ensures.only v (written_pdu c.encode.result v c.encode.ensures) ∙ ap ok (sym c.in-Lacpdu.is)

pub returns-in-Marker : goal.returns-in-Marker
returns-in-Marker c = let m = pdu.Marker c.in-Marker.marker in
    c.decode-in-Marker.ensures.only m (written_pdu c.encode-in-Marker.result m c.encode-in-Marker.ensures) ∙ ap ok (sym c.in-Marker.is)
