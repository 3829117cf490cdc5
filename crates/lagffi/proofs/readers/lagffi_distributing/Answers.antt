use Rattle.lagffi.proofs.Common.{ap, subst, ◌∙◌, List, length, ℕ, IsStrictlyIncreasing, aggregator_numbered, put_first, number}
use mathlib.Core.Path.{◌≡◌}
use Rattle.std.proofs.Common.{[]}
use Rattle.std.specs.Bool.{OnFalse}
use Rattle.lagsystem.specs.Offers.{has_aggregator}
use Rattle.lagffi.proofs.AskingLemmas.{asked}
use Rattle.lagffi.proofs.readers.lagffi_distributing.Goals as goal

pub returns-clause-answers : goal.returns-clause-answers
returns-clause-answers c fits = asked _ _ c.in-Some.ensures.taken c.put.ensures (
  c.answered.ensures ∙ ap number (c.put_first.ensures.count ∙ ap length c.distributing-answered.ensures.all),
  c.put_first.ensures.written ∙ ap (λ ns. put_first ns c.args.buffer.now) c.distributing-answered.ensures.all,
  subst (λ ns. IsStrictlyIncreasing ns) c.distributing-answered.ensures.all c.distributing-answered.ensures.ascending,
  subst (λ (ns : List ℕ). OnFalse (has_aggregator c.in-Some.system.state (aggregator_numbered c.args.agg)) (ns ≡ []))
      c.distributing-answered.ensures.all c.distributing-answered.ensures.unknown,
)
