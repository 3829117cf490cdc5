use Rattle.selection.proofs.Common.{sym, ◌∙◌}
use Rattle.selection.proofs.LimitLemmas.{row_is_next}
use Rattle.selection.proofs.aggregators.Aggregators.next_standby_index.Goals as goal

pub returns-in-Some-clause-next : goal.returns-in-Some-clause-next
returns-in-Some-clause-next c =
    (row_is_next c.args.self.now c.args.views.now c.args.agg c.in-Some.row (sym c.next_standby_row.ensures ∙ c.in-Some.is)).0
