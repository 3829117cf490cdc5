use Rattle.dataplane.proofs.Common.{refl}
use Rattle.dataplane.proofs.QueueViews.{queue_of, queues_set, same_holding}
use Rattle.dataplane.proofs.holding.queues.Holding.next.Goals as goal

pub returns-clause-after : goal.returns-clause-after
returns-clause-after g c = rw (← c.self.view_is, queue_of, ← c.from.ensures) (same_holding _ _ _ _ _ _ _ _ (queues_set _ _ _ _ _ c.take_first.ensures.rest) refl refl)
