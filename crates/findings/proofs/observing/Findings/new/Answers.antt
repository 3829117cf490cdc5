use Rattle.std.proofs.Common.{[], sym, subst}
use Rattle.findings.specs.Knows.{Knows}
use Rattle.findings.specs.Orders.{order_of}
use Rattle.findings.proofs.KnowsLemmas.{nothing_known}
use Rattle.findings.proofs.observing.Findings.new.Goals as goal

pub returns : goal.returns
returns c = subst (λ ws. Knows [] ws (order_of []) 0) (sym c.new.ensures) nothing_known
