use Rattle.selection.proofs.Common.{rules}
use Rattle.std.proofs.lemmas.Fn.{always_returns_same}
use Rattle.selection.proofs.Rising.{below, rising-answer}
use Rattle.selection.proofs.view.is_rising.Goals as goal

pub returns : goal.returns
returns c = rising-answer c.args.views.now c.is_sorted_by.result (c.is_sorted_by.ensures.cases below (search (rules, always_returns_same)))
