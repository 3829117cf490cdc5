-- Whether a conversation is On, Wanted or Flushing in another aggregator, as far as it was searched.
use Rattle.dataplane.proofs.Common.{arith, ℕ, ◌+◌, ◌∙◌, ◌≡◌, ◌≢◌, ◌≤◌, AggId, model_view, SystemState, IsElsewhere}
use Rattle.lagmodel.specs.View.{Free}

-- it is in none of the aggregators up to number n
abbrev pub NoneUpTo : SystemState → AggId → ℕ → ℕ → Type 0
NoneUpTo s agg conv n = (z : IsElsewhere s agg conv) → z.other.0 ≤ n → ⊥

pub none_more : (s : SystemState) (agg : AggId) (conv n : ℕ) → NoneUpTo s agg conv n
    → (n + 1 ≢ agg.0 → (model_view s).flows.state (n + 1) conv ≢ Free → ⊥) → NoneUpTo s agg conv (n + 1)
none_more s agg conv n before not z l = grind arith
