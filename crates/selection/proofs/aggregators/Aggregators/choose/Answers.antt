use Rattle.selection.proofs.Common.{rules, sym, ◌∙◌, ◌≡◌, chosen_if_eligible}
use Rattle.selection.proofs.Joining.{answer-joins}
use Rattle.selection.proofs.aggregators.Aggregators.choose.Goals as goal

pub returns-in-Some-clause-joins : goal.returns-in-Some-clause-joins
returns-in-Some-clause-joins c =
    let e : c.choose_if_eligible.result ≡ chosen_if_eligible c.args.self.now.keys c.args.views.now c.in-Some.view = search rules in
    answer-joins _ _ _ c.in-Some.view c.choose_if_eligible.result (sym c.find_view.ensures ∙ c.in-Some.is) (sym c.is_eligible.ensures
    ∙ c.if-is_eligible.true) e
