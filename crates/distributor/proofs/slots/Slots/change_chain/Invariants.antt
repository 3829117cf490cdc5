use Rattle.distributor.proofs.Common.{◌≡◌, is_flagged, after_change}
use Rattle.distributor.proofs.WalkLemmas.{Walking, steps}
use Rattle.distributor.proofs.slots.Slots.change_chain.Given as goal

abbrev pub invariant-loop-at : goal.invariant-loop-at
invariant-loop-at l = record {
  walking : Walking l.chain (after_change l.change) l.fn.self.count l.fn.self.states.items l.self.states.items l.self.next.items
      l.self.prev.items l.end l.at (is_flagged l.wanted l.flushing);
  count : l.self.count ≡ l.fn.self.count;
  wanted : l.self.may_want ≡ l.fn.self.may_want;
  flushing : l.self.may_flush ≡ l.fn.self.may_flush;
}

abbrev pub decreases-loop-at : goal.decreases-loop-at
decreases-loop-at l = steps l.self.next.items l.end l.fn.self.count l.at
