use Rattle.dataplane.proofs.Common.{sym, ◌∙◌}
use Rattle.dataplane.proofs.QueueViews.{counted_is}
use Rattle.dataplane.proofs.counting.one_more.Goals as goal

pub returns : goal.returns
returns c = c.saturating_add.ensures ∙ sym (counted_is _ _)
