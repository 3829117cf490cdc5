use Rattle.distributor.proofs.Common.{◌≡◌, ◌≤◌}
use Rattle.distributor.specs.Slots.{AreFlagged, AreChained}
use Rattle.distributor.proofs.TickLemmas.{Ticking}
use Rattle.distributor.proofs.slots.Slots.tick_flagged_chains.Given as goal

abbrev pub invariant-loop-chain : goal.invariant-loop-chain
invariant-loop-chain l = record {
  chained : AreChained l.self;
  flagged : AreFlagged l.self;
  ticking : Ticking l.chain l.fn.self.states.items l.self.states.items;
  count : l.self.count ≡ l.fn.self.count;
  few : l.chain ≤ 64;
}
