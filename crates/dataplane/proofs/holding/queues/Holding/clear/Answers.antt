use Rattle.dataplane.proofs.QueueViews.{clear_empties}
use Rattle.dataplane.proofs.holding.queues.Holding.clear.Goals as goal

pub returns-clause-after : goal.returns-clause-after
returns-clause-after g c =
    clear_empties _ _ _ _ _ _ _ _ _ _ _ _ c.self.view_is c.from.ensures c.empty_one-number.ensures.number c.saturating_add-self-inside.ensures c.empty_one-number.ensures.empty
