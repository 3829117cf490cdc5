use Rattle.slowpdu.specs.declared.pdu.Pdu.TheVariants as pdu
use Rattle.lagworld.proofs.delivering.lacpdu_of.Goals as goal

pub returns-in-Ok-Lacpdu : goal.returns-in-Ok-Lacpdu
returns-in-Ok-Lacpdu c = λ v h. let e = c.decode.ensures.only (pdu.Lacpdu v) h in cc (c.in-Ok-Lacpdu.is, c.in-Ok-Lacpdu.field-0-is)

pub returns-in-Ok-Marker : goal.returns-in-Ok-Marker
returns-in-Ok-Marker c = λ v h. let e = c.decode.ensures.only (pdu.Lacpdu v) h in absurd (cc (c.in-Ok-Marker.is))

pub returns-in-Err : goal.returns-in-Err
returns-in-Err c = λ v h. let e = c.decode.ensures.only (pdu.Lacpdu v) h in absurd (cc (c.in-Err.is))
