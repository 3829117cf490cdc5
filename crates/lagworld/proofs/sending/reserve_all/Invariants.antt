use Rattle.lagworld.proofs.Common.{Some, length, ℕ, ◌-◌, ◌<◌, ◌≡◌, link_states, IsReservedAt, model_side}
use Rattle.lagworld.proofs.sending.reserve_all.Given as goal

abbrev pub invariant-loop-index : goal.invariant-loop-index
invariant-loop-index g l = record {
  same : link_states g.C.Cable.items g.C.Cable.limit l.links.items ≡ link_states g.C.Cable.items g.C.Cable.limit l.fn.links.items;
  len : length l.links.items ≡ length l.fn.links.items;
  reserved : (i : ℕ) → i < l.index → IsReservedAt g.C.Cable.reserved (model_side l.side) (Some i) l.links.items;
}

abbrev pub decreases-loop-index : goal.decreases-loop-index
decreases-loop-index g l = length l.fn.links.items - l.index
