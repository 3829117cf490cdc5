use Rattle.distributor.proofs.Common.{◌≤◌}
use Rattle.distributor.proofs.WaitLemmas.{SeekingChains}
use Rattle.distributor.proofs.slots.Slots.ticks_until_next_wanted.Given as goal

abbrev pub invariant-loop-chain : goal.invariant-loop-chain
invariant-loop-chain l = record { seeking : SeekingChains l.chain l.self.count l.self.states.items l.soonest; few : l.chain ≤ 64 }
