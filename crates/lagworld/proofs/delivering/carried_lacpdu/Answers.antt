use Rattle.lagworld.proofs.Common.{arith, subst, sym, Reads}
use Rattle.lagworld.proofs.delivering.carried_lacpdu.Goals as goal

pub returns-in-Control : goal.returns-in-Control
returns-in-Control c = λ v h. c.lacpdu_of.ensures v (subst (λ b. Reads b v) (sym c.in-Control.ensures.kind.2) h.1)

pub returns-in-Data : goal.returns-in-Data
returns-in-Data c = λ v h. absurd (c.in-Data.ensures.kind.1 h.0.1)

pub returns-in-TooShort : goal.returns-in-TooShort
returns-in-TooShort c = λ v h. absurd (omega (arith, c.in-TooShort.ensures.kind, h.0.0))
