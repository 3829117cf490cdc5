use Rattle.distributor.proofs.Common.{Bool, ap, arith, refl, sym, true, ◌||◌, ◌∙◌, ◌≡◌, or_left, Assignment, assignment_port, is_flagged, is_flushing}
use Rattle.distributor.proofs.Common.{is_wanted, slot_state, after_change}
use Rattle.distributor.proofs.FlagLemmas.{change_flagged, flagged_more}
use Rattle.distributor.proofs.WalkLemmas.{port_kept, read_state, stand_leaves, stand_next, stand_stays, steps_fewer, walk_after, walk_all}
use Rattle.distributor.proofs.WalkLemmas.{walk_before, walk_begins, walk_below, walk_ends, walk_found, walk_on}
use Rattle.distributor.proofs.slots.Slots.change_chain.Goals as goal

-- the flags with one more state noted
noted_more : (w x f g : Bool) (s : Assignment) → is_flagged w f s ≡ true → is_flagged (w || x) (f || g) s ≡ true
noted_more w x f g s e = flagged_more w (w || x) f (f || g) (λ h. or_left w x h) (λ h. or_left f g h) s e

noted_here : (w x f g : Bool) (s : Assignment) → x ≡ is_wanted s → g ≡ is_flushing s → is_flagged (w || x) (f || g) s ≡ true
noted_here w x f g s m n = grind arith

pub loop-at-init : goal.loop-at-init
loop-at-init c = grind (arith, walk_begins)

pub index-at-requires-in-loop-at : goal.index-at-requires-in-loop-at
index-at-requires-in-loop-at c = let w = c.loop-at.invariant.walking.standing in
    omega (arith, walk_below w c.loop-at-test.true, w.chained.next_len, c.loop-at.self.next.ok.0)

pub index-requires : goal.index-requires
index-requires c = let w = c.loop-at.invariant.walking.standing in
    omega (arith, walk_below w c.loop-at-test.true, w.chained.states_len, c.loop-at.self.states.ok.0)

pub take_from_ring-requires-clause-slot : goal.take_from_ring-requires-clause-slot
take_from_ring-requires-clause-slot c = let w = c.loop-at.invariant.walking.standing in
    omega (arith, walk_below w c.loop-at-test.true, w.chained.next_len)

pub take_from_ring-requires-clause-after : goal.take_from_ring-requires-clause-after
take_from_ring-requires-clause-after c = let w = c.loop-at.invariant.walking.standing in
    omega (arith, walk_after w c.loop-at-test.true, w.chained.prev_len)

pub take_from_ring-requires-clause-before : goal.take_from_ring-requires-clause-before
take_from_ring-requires-clause-before c = let w = c.loop-at.invariant.walking.standing in
    omega (arith, walk_before w c.loop-at-test.true, w.chained.next_len)

pub index_mut-requires : goal.index_mut-requires
index_mut-requires c = let w = c.loop-at.invariant.walking.standing in
    omega (arith, walk_below w c.loop-at-test.true, w.chained.states_len, c.loop-at.self.states.ok.0)

pub index_mut-requires-in-Some : goal.index_mut-requires-in-Some
index_mut-requires-in-Some c = let w = c.loop-at.invariant.walking.standing in
    omega (arith, walk_below w c.loop-at-test.true, w.chained.states_len, c.loop-at.self.states.ok.0)

pub loop-at-preserved-in-None : goal.loop-at-preserved-in-None
loop-at-preserved-in-None c = let i = c.loop-at.invariant in
    let w = i.walking.standing in
    let v = stand_leaves w c.loop-at-test.true _ c.index-at-in-loop-at.ensures c.apply-state.result (sym c.port.ensures ∙ c.in-None.is)
    _ _ c.take_from_ring.ensures.next c.take_from_ring.ensures.prev in
    record {
      walking = walk_on i.walking c.loop-at-test.true v.0 v.1
          (c.apply-state.ensures ∙ ap (after_change c.args.change) (read_state w c.loop-at-test.true _ c.index.ensures)) _
          (noted_more c.loop-at.wanted c.is_wanted-wanted.result c.loop-at.flushing c.is_flushing-flushing.result)
          (noted_here _ _ _ _ c.apply-state.result c.is_wanted-wanted.ensures c.is_flushing-flushing.ensures);
      count = i.count;
      wanted = i.wanted;
      flushing = i.flushing;
    }

pub loop-at-smaller-in-None : goal.loop-at-smaller-in-None
loop-at-smaller-in-None c = let w = c.loop-at.invariant.walking.standing in
    let v = stand_leaves w c.loop-at-test.true _ c.index-at-in-loop-at.ensures c.apply-state.result (sym c.port.ensures ∙ c.in-None.is)
    _ _ c.take_from_ring.ensures.next c.take_from_ring.ensures.prev in
    steps_fewer w c.loop-at-test.true v.0 v.1

pub loop-at-preserved : goal.loop-at-preserved
loop-at-preserved c = let i = c.loop-at.invariant in
    let w = i.walking.standing in
    let is : c.apply-state.result ≡ after_change c.args.change (slot_state c.loop-at.self.states.items c.loop-at.at) =
    c.apply-state.ensures ∙ ap (after_change c.args.change) (read_state w c.loop-at-test.true _ c.index.ensures) in
    let stays = ap assignment_port is
    ∙ port_kept c.args.change _ c.in-Some.field-0 (sym (ap assignment_port is) ∙ sym c.port.ensures ∙ c.in-Some.is) in
    record {
      walking = walk_on i.walking c.loop-at-test.true (stand_stays w c.loop-at-test.true _ c.index-at-in-loop-at.ensures _ stays) refl is _
          (noted_more c.loop-at.wanted c.is_wanted-wanted.result c.loop-at.flushing c.is_flushing-flushing.result)
          (noted_here _ _ _ _ c.apply-state.result c.is_wanted-wanted.ensures c.is_flushing-flushing.ensures);
      count = i.count;
      wanted = i.wanted;
      flushing = i.flushing;
    }

pub loop-at-smaller : goal.loop-at-smaller
loop-at-smaller c = let w = c.loop-at.invariant.walking.standing in
    steps_fewer w c.loop-at-test.true (stand_next w c.loop-at-test.true _ c.index-at-in-loop-at.ensures) refl

pub returns-clause-states : goal.returns-clause-states
returns-clause-states c = walk_ends c.loop-at.invariant.walking c.loop-at-test.false

pub returns-clause-flagged : goal.returns-clause-flagged
returns-clause-flagged c = let i = c.loop-at.invariant in
    rw (i.wanted, i.flushing)
    (change_flagged c.args.change c.args.chain c.args.self.now.states.items c.loop-at.self.states.items c.args.self.now.may_want.items
    c.args.self.now.may_flush.items c.loop-at.wanted c.loop-at.flushing c.requires.below c.requires.flagged
    (walk_all i.walking c.loop-at-test.false) (walk_found i.walking c.loop-at-test.false))
