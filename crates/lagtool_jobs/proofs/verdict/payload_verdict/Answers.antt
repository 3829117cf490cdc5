use Rattle.lagtool_jobs.proofs.Common.{subst, sym}
use Rattle.slowpdu.specs.Pdus.{ReadsPdu}
use Rattle.lagtool_jobs.proofs.VerdictLemmas.{lacpdu_verdict}
use Rattle.lagtool_jobs.proofs.verdict.payload_verdict.Goals as goal

pub returns-in-Ok-Lacpdu : goal.returns-in-Ok-Lacpdu
returns-in-Ok-Lacpdu c = sym (lacpdu_verdict c.args.payload.now c.in-Ok-Lacpdu.field-0-0
    (subst (ReadsPdu c.args.payload.now) c.in-Ok-Lacpdu.field-0-is c.in-Ok-Lacpdu.ensures.found))
