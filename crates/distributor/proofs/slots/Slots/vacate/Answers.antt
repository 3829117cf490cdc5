use Rattle.distributor.proofs.Common.{List, Some, arith, get_or, sym, ℕ, ◌<◌, ◌∙◌, ◌≡◌, get_or_read, Assignment, IsChained, assignment_port, chain_of}
use Rattle.distributor.proofs.Common.{occurs}
use Rattle.distributor.proofs.ChainLemmas.{split_at, before_on, after_on, on_below, taken_out}
use Rattle.distributor.proofs.slots.Slots.vacate.Goals as goal

-- the slot stands in the chain of its port
standing : (count : ℕ) (states : List Assignment) (next prev : List ℕ) (h : IsChained count states next prev) (slot port : ℕ) (seen : Assignment) → slot < count
    → seen ≡ get_or states slot seen → assignment_port seen ≡ Some port → (chain_of port < 64) × (0 < occurs slot (h.chains (chain_of port)))
standing count states next prev h slot port seen inside read is = grind (arith, get_or_read)

pub take_from_ring-requires-clause-after : goal.take_from_ring-requires-clause-after
take_from_ring-requires-clause-after c = let h = c.requires.chained in
    let at = standing _ _ _ _ h c.args.slot c.in-Some.field-0 c.index.result.now c.requires.inside c.index.ensures
    (sym c.port.ensures ∙ c.in-Some.is) in
    let s = split_at c.args.slot (h.chains (chain_of c.in-Some.field-0)) at.1 in
    omega (
      arith,
      h.prev_len,
      on_below _ _ _ _ h (chain_of c.in-Some.field-0) _ at.0
          (after_on _ _ _ _ h (chain_of c.in-Some.field-0) c.args.slot s.0 s.1 at.0 s.2),
    )

pub take_from_ring-requires-clause-before : goal.take_from_ring-requires-clause-before
take_from_ring-requires-clause-before c = let h = c.requires.chained in
    let at = standing _ _ _ _ h c.args.slot c.in-Some.field-0 c.index.result.now c.requires.inside c.index.ensures
    (sym c.port.ensures ∙ c.in-Some.is) in
    let s = split_at c.args.slot (h.chains (chain_of c.in-Some.field-0)) at.1 in
    omega (
      arith,
      h.next_len,
      on_below _ _ _ _ h (chain_of c.in-Some.field-0) _ at.0
          (before_on _ _ _ _ h (chain_of c.in-Some.field-0) c.args.slot s.0 s.1 at.0 s.2),
    )

pub returns-in-Some-clause-chained : goal.returns-in-Some-clause-chained
returns-in-Some-clause-chained c = let h = c.requires.chained in
    let at = standing _ _ _ _ h c.args.slot c.in-Some.field-0 c.index.result.now c.requires.inside c.index.ensures
    (sym c.port.ensures ∙ c.in-Some.is) in
    grind (arith, split_at, chain_of, taken_out)
