-- What is forced on a port, one conversation and one aggregator after another.
use Rattle.lagsystem.proofs.Common.{Bool, arith, cond, ℕ, ◌+◌, ◌≡◌, nat_tests, AggId, ForcesFirst, ForcesIfHeld, ForcesIn, aggregator_numbered}
use Rattle.lagsystem.proofs.Common.{SystemState}

-- one conversation more
pub one_conversation_more : (gives : ℕ → ℕ → ℕ → Type 0) (port : ℕ) (agg : AggId) (k : ℕ) (old mid new : SystemState) (before n : ℕ)
    (forced : Bool) → ForcesIn gives port agg k old before mid → ForcesIfHeld gives port agg k mid forced new
    → n ≡ before + cond forced 1 0 → ForcesIn gives port agg (k + 1) old n new
one_conversation_more gives port agg k old mid new before n forced h one count = grind (arith, nat_tests)

-- one aggregator more
pub one_aggregator_more : (gives : ℕ → ℕ → ℕ → Type 0) (port g : ℕ) (old mid new : SystemState) (before more n : ℕ) → ForcesFirst gives port g old before mid
    → ForcesIn gives port (aggregator_numbered (g + 1)) mid.conversations mid more new → n ≡ before + more → ForcesFirst gives port (g + 1) old n new
one_aggregator_more gives port g old mid new before more n h one count = grind (arith, nat_tests)
