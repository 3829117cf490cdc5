use Rattle.dataplane.proofs.Common.{ap, refl, ◌∙◌, ring_queues}
use Rattle.dataplane.proofs.QueueViews.{queues_empty, same_holding}
use Rattle.dataplane.proofs.holding.queues.Holding.new.Goals as goal

pub returns : goal.returns
returns g c = same_holding _ _ _ _ _ _ _ _ (ap ring_queues c.in_ok-rings.ensures ∙ queues_empty c.args.conversations _) refl refl
