use Rattle.distributor.proofs.Common.{chain_of, passes, tested_port}
use Rattle.distributor.proofs.WalkLemmas.{Counting, steps}
use Rattle.distributor.proofs.slots.Slots.any_in_chain.Given as goal

abbrev pub invariant-loop-at : goal.invariant-loop-at
invariant-loop-at l = Counting (chain_of (tested_port l.test)) (passes l.test) l.self.count l.self.states.items l.self.next.items
    l.self.prev.items l.end l.at 0

abbrev pub decreases-loop-at : goal.decreases-loop-at
decreases-loop-at l = steps l.self.next.items l.end l.self.count l.at
