use Rattle.distributor.proofs.Common.{arith, refl, ◌+◌, ◌≡◌, ◌≤◌}
use Rattle.distributor.proofs.FlagLemmas.{flag_clear}
use Rattle.distributor.proofs.WaitLemmas.{chains_end, chains_passed, chains_walked}
use Rattle.distributor.proofs.slots.Slots.ticks_until_next_wanted.Goals as goal
use Rattle.distributor.proofs.slots.Slots.ticks_until_next_wanted.Goals.{then-index, else-index}

pub loop-chain-init : goal.loop-chain-init
loop-chain-init c = grind arith

pub loop-chain-preserved : goal.loop-chain-preserved
loop-chain-preserved c = let i = c.loop-chain.invariant in
    let few : c.loop-chain.chain + 1 ≤ 64 = omega (arith, c.loop-chain-test.true) in
    elim c.if-index.branch [
      | then-index w ↦
          rw w.soonest-is record {
            seeking = chains_walked c.loop-chain.chain c.args.self.now.count c.args.self.now.states.items c.loop-chain.soonest
                w.ticks_in_chain.result _ i.seeking w.sooner-soonest.ensures w.ticks_in_chain.ensures.taken w.ticks_in_chain.ensures.soonest;
            few = few;
          }
      | else-index w ↦
          (let none = flag_clear _ _ _ _ c.loop-chain-test.true c.requires.flagged.flushing_len c.index.ensures refl w.if-index.false in
          rw w.soonest-is record {
            seeking = chains_passed c.loop-chain.chain c.args.self.now.count c.args.self.now.states.items
                c.args.self.now.may_want.items c.args.self.now.may_flush.items c.loop-chain.soonest i.seeking c.requires.flagged none;
            few = few;
          })
    ]

pub returns : goal.returns
returns c = grind (arith, chains_end)
