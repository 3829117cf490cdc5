use Rattle.dataplane.proofs.Common.{arith, refl, sym, ◌∙◌}
use Rattle.dataplane.proofs.QueueViews.{queue_of, queues_set, same_holding, counted_one, counted_none}
use Rattle.dataplane.proofs.holding.queues.Holding.drop_oldest.Goals as goal

pub returns-in_err-handle-clause-after : goal.returns-in_err-handle-clause-after
returns-in_err-handle-clause-after g c = rw (← c.self.view_is, queue_of, ← c.from.ensures) (same_holding _ _ _ _ _ _ _ _ (queues_set _ _ _ _ _ c.take_first.ensures.rest) (sym (counted_none _ _ c.in_err-handle.ensures.first (omega arith))) refl)

pub returns-clause-after : goal.returns-clause-after
returns-clause-after g c = rw (← c.self.view_is, queue_of, ← c.from.ensures) (same_holding _ _ _ _ _ _ _ _ (queues_set _ _ _ _ _ c.take_first.ensures.rest) (c.saturating_add-self-inside.ensures ∙ sym (counted_one _ c.in_ok-handle.handle _ (sym c.in_ok-handle.ensures.first))) refl)
