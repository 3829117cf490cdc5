use Rattle.distributor.proofs.Common.{false, get_or, ℕ, ◌<◌, ◌≡◌, ◌≤◌}
use Rattle.std.specs.Bool.{OnFalse}
use Rattle.distributor.proofs.slots.Slots.any_may_flush.Given as goal

abbrev pub invariant-loop-chain : goal.invariant-loop-chain
invariant-loop-chain l = record { none : OnFalse l.any ((c : ℕ) → c < l.chain → get_or l.self.may_flush.items c false ≡ false); few : l.chain ≤ 64 }
