use Rattle.lagffi.proofs.Common.{ap, subst, ◌∙◌, length, IsStrictlyIncreasing, put_first, number}
use Rattle.lagffi.proofs.AskingLemmas.{asked}
use Rattle.lagffi.proofs.readers.lagffi_ports.Goals as goal

pub returns-clause-answers : goal.returns-clause-answers
returns-clause-answers c fits = asked _ _ c.in-Some.ensures.taken c.put.ensures (
  c.answered.ensures ∙ ap number (c.put_first.ensures.count ∙ ap length c.ports-answered.ensures.all),
  c.put_first.ensures.written ∙ ap (λ ns. put_first ns c.args.buffer.now) c.ports-answered.ensures.all,
  subst (λ ns. IsStrictlyIncreasing ns) c.ports-answered.ensures.all c.ports-answered.ensures.ascending,
)
