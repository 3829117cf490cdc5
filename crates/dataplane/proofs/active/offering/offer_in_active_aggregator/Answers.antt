use native.Mathlib.Omega.{arith}
use Rattle.dataplane.proofs.Common.{◌∙◌, false≢true, conversation_in}
use Rattle.dataplane.proofs.Kept.{offered}
use Rattle.dataplane.proofs.active.offering.offer_in_active_aggregator.Goals as goal

pub returns-clause-keeps : goal.returns-clause-keeps
returns-clause-keeps g c = grind (arith, conversation_in, offered)
