use Rattle.distributor.proofs.Common.{arith, refl, ◌+◌, ◌∙◌, ◌≡◌, ◌≤◌}
use Rattle.distributor.proofs.FlagLemmas.{flag_clear}
use Rattle.distributor.proofs.TickLemmas.{tick_ends, tick_passed, tick_walked}
use Rattle.distributor.proofs.slots.Slots.tick_flagged_chains.Goals as goal
use Rattle.distributor.proofs.slots.Slots.tick_flagged_chains.Goals.{then-index, else-index}

pub loop-chain-init : goal.loop-chain-init
loop-chain-init c = grind arith

pub loop-chain-preserved : goal.loop-chain-preserved
loop-chain-preserved c = let i = c.loop-chain.invariant in
    let few : c.loop-chain.chain + 1 ≤ 64 = omega (arith, c.loop-chain-test.true) in
    elim c.if-index.branch [
      | then-index w ↦
          rw w.self-is record {
            chained = w.tick_chain.ensures.chained;
            flagged = w.tick_chain.ensures.flagged;
            ticking = tick_walked c.loop-chain.chain c.args.self.now.states.items c.loop-chain.self.states.items _ i.ticking
                w.tick_chain.ensures.states;
            count = w.tick_chain.ensures.count ∙ i.count;
            few = few;
          }
      | else-index w ↦
          (let none = flag_clear _ _ _ _ c.loop-chain-test.true i.flagged.flushing_len c.index.ensures refl w.if-index.false in
          rw w.self-is record {
            chained = i.chained;
            flagged = i.flagged;
            ticking = tick_passed c.loop-chain.chain c.args.self.now.states.items c.loop-chain.self.states.items
                c.loop-chain.self.may_want.items c.loop-chain.self.may_flush.items i.ticking i.flagged none;
            count = i.count;
            few = few;
          })
    ]

pub returns-clause-states : goal.returns-clause-states
returns-clause-states c = grind (arith, tick_ends)
