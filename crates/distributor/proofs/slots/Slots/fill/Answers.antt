use Rattle.distributor.proofs.Common.{ap, arith, eqb, false, sym, ℕ, ◌∙◌, ◌≡◌, is_in_chain, slot_state}
use Rattle.distributor.proofs.ChainLemmas.{stands_some, stands_none, first_on, on_below, put_in}
use Rattle.distributor.proofs.slots.Slots.fill.Goals as goal

pub put_into_ring-requires-clause-after : goal.put_into_ring-requires-clause-after
put_into_ring-requires-clause-after c = let h = c.requires.chained in
    let free : (d : ℕ) → is_in_chain d (slot_state c.args.self.now.states.items c.args.slot) ≡ false = λ d. stands_none d
    (slot_state c.args.self.now.states.items c.args.slot) c.requires.free in
    let stands : (d : ℕ) → is_in_chain d c.args.state ≡ eqb c.chain.result d = λ d. stands_some d c.in-Some.port c.args.state
    (sym c.port.ensures ∙ c.in-Some.is) ∙ ap (λ x. eqb x d) (sym c.chain.ensures.chain) in
    omega (
      arith,
      h.prev_len,
      on_below _ _ _ _ h c.chain.result _ c.chain.ensures.below
          (first_on _ _ _ _ h c.chain.result c.args.slot c.args.state c.chain.ensures.below c.requires.inside free stands),
    )

pub returns-in-Some-clause-chained : goal.returns-in-Some-clause-chained
returns-in-Some-clause-chained c = grind (arith, put_in)
