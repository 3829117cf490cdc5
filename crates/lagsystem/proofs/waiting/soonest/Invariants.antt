use Rattle.lagsystem.proofs.Common.{drop, ◌≡◌, sooner, soonest}
use Rattle.lagsystem.proofs.waiting.soonest.Given as goal

abbrev pub invariant-loop-wait : goal.invariant-loop-wait
invariant-loop-wait l = record { rest : sooner l.first (soonest (drop l.wait-index l.waits)) ≡ soonest l.waits }
