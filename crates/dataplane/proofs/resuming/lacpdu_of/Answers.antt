use Rattle.dataplane.proofs.Common.{subst, sym, IfSome, ReadsPdu}
use Rattle.slowpdu.specs.declared.pdu.Pdu.TheVariants as pdu
use Rattle.dataplane.proofs.resuming.lacpdu_of.Goals as goal

pub returns-clause-found : goal.returns-clause-found
returns-clause-found c = subst (λ b. IfSome c.lacpdu_in.result (λ v. ReadsPdu b (pdu.Lacpdu v))) c.split_at.ensures.back c.lacpdu_in.ensures.found

pub returns-clause-only : goal.returns-clause-only
returns-clause-only c = λ v h. c.lacpdu_in.ensures.only v (subst (λ b. ReadsPdu b (pdu.Lacpdu v)) (sym c.split_at.ensures.back) h)
