use Rattle.lagffi.proofs.Common.{ap, subst, ◌∙◌, number}
use Rattle.dataplane.specs.Choice.{Carries}
use Rattle.lagffi.proofs.AskingLemmas.{asked}
use Rattle.lagffi.proofs.carrying.lagffi_active_aggregator.Goals as goal

pub returns : goal.returns
returns c = asked _ _ c.in-Some.ensures.taken c.put.ensures (
  c.active_aggregator-carries.result,
  subst (λ now. Carries now c.in-Some.system.state c.active_aggregator-carries.result) c.aggregator_or_none.ensures c.active_aggregator-carries.ensures,
  c.answered.ensures ∙ ap number c.number_or_0.ensures,
)
