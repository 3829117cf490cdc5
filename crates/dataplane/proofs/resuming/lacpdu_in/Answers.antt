use Rattle.dataplane.proofs.Common.{subst, ReadsPdu}
use Rattle.slowpdu.specs.declared.pdu.Pdu.TheVariants as pdu
use Rattle.dataplane.proofs.resuming.lacpdu_in.Goals as goal

pub returns-in-Ok-Lacpdu-clause-found : goal.returns-in-Ok-Lacpdu-clause-found
returns-in-Ok-Lacpdu-clause-found c = subst (ReadsPdu c.args.payload.now) c.in-Ok-Lacpdu.field-0-is c.in-Ok-Lacpdu.ensures.found

pub returns-in-Ok-Lacpdu-clause-only : goal.returns-in-Ok-Lacpdu-clause-only
returns-in-Ok-Lacpdu-clause-only c = λ v h. let e = c.decode.ensures.only (pdu.Lacpdu v) h in cc (c.in-Ok-Lacpdu.is, c.in-Ok-Lacpdu.field-0-is)

pub returns-in-Ok-Marker-clause-only : goal.returns-in-Ok-Marker-clause-only
returns-in-Ok-Marker-clause-only c = λ v h. let e = c.decode.ensures.only (pdu.Lacpdu v) h in absurd (cc (c.in-Ok-Marker.is))

pub returns-in-Err-clause-only : goal.returns-in-Err-clause-only
returns-in-Err-clause-only c = λ v h. let e = c.decode.ensures.only (pdu.Lacpdu v) h in absurd (cc (c.in-Err.is))
