use Rattle.distributor.proofs.Common.{false, get_or, length, true, ℕ, ◌<◌, ◌≡◌}
use Rattle.distributor.proofs.slots.clear_flags.Given as goal

abbrev pub invariant-loop-chain : goal.invariant-loop-chain
invariant-loop-chain l = (length l.flags.items ≡ 64) × ((c : ℕ) → c < l.chain → get_or l.flags.items c true ≡ false)
