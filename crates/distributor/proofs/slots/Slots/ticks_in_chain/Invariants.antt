use Rattle.distributor.proofs.WaitLemmas.{Seeking}
use Rattle.distributor.proofs.WalkLemmas.{steps}
use Rattle.distributor.proofs.slots.Slots.ticks_in_chain.Given as goal

abbrev pub invariant-loop-at : goal.invariant-loop-at
invariant-loop-at l = Seeking l.chain l.self.count l.self.states.items l.self.next.items l.self.prev.items l.end l.at l.soonest

abbrev pub decreases-loop-at : goal.decreases-loop-at
decreases-loop-at l = steps l.self.next.items l.end l.self.count l.at
