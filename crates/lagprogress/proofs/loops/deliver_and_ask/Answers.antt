use Rattle.lagprogress.proofs.Common.{refl, suc, ◌∙◌}
use Rattle.lagprogress.proofs.Looping.{plays_again, plays_both, plays_delivers, stops_delivering_now, stops_later}
use Rattle.lagprogress.proofs.Played.{on_err}
use Rattle.lagprogress.proofs.loops.deliver_and_ask.Goals as goal

pub loop-world-init : goal.loop-world-init
loop-world-init g c = record { played = (0, refl); fixed = refl; one = refl; two = refl }

pub deliver_each-requires-clause-one : goal.deliver_each-requires-clause-one
deliver_each-requires-clause-one g c = rw c.loop-world.invariant.one c.requires.one

pub deliver_each-requires-clause-two : goal.deliver_each-requires-clause-two
deliver_each-requires-clause-two g c = rw c.loop-world.invariant.two c.requires.two

pub ask_ends-requires-clause-one : goal.ask_ends-requires-clause-one
ask_ends-requires-clause-one g c = rw (c.deliver_each.ensures.algorithm_one, c.loop-world.invariant.one) c.requires.one

pub ask_ends-requires-clause-two : goal.ask_ends-requires-clause-two
ask_ends-requires-clause-two g c = rw (c.deliver_each.ensures.algorithm_two, c.loop-world.invariant.two) c.requires.two

pub returns-in_err-deliver_each-clause-part : goal.returns-in_err-deliver_each-clause-part
returns-in_err-deliver_each-clause-part g c = on_err _ c.in_err-deliver_each.field-0.0 c.from_residual.result c.from_residual.ensures.1
    (stops_later _ _ _ _ _ (plays_again _ _ c.loop-world.invariant.played.0 _ _ c.loop-world.invariant.played.1) (stops_delivering_now _ _ _ _
    (rw (c.loop-world.invariant.one, c.loop-world.invariant.two) at c.deliver_each.ensures.delivers) c.in_err-deliver_each.ensures.next))

pub returns-then-branch-clause-plays : goal.returns-then-branch-clause-plays
returns-then-branch-clause-plays g c = record {
  times = c.loop-world.invariant.played.0;
  asked = c.loop-world.world.state;
  plays = c.loop-world.invariant.played.1;
  empty = c.in_ok-deliver_each.ensures.empty c.if-branch.true;
  last = rw (c.loop-world.invariant.one, c.loop-world.invariant.two) at c.deliver_each.ensures.delivers;
  empties = c.in_ok-deliver_each.ensures.empties c.if-branch.true;
}

pub returns-in_err-ask_ends-clause-part : goal.returns-in_err-ask_ends-clause-part
returns-in_err-ask_ends-clause-part g c = on_err _ c.in_err-ask_ends.field-0.0 c.from_residual-in_err-ask_ends.result
    c.from_residual-in_err-ask_ends.ensures.1
    (stops_later _ _ _ _ _ (plays_both _ _ _ _ (plays_again _ _ c.loop-world.invariant.played.0 _ _ c.loop-world.invariant.played.1)
    (plays_delivers _ _ _ (rw (c.loop-world.invariant.one, c.loop-world.invariant.two) at c.deliver_each.ensures.delivers)))
    (rw (c.deliver_each.ensures.algorithm_one, c.loop-world.invariant.one, c.deliver_each.ensures.algorithm_two, c.loop-world.invariant.two)
    at c.in_err-ask_ends.ensures.part))

pub loop-world-preserved : goal.loop-world-preserved
loop-world-preserved g c = record {
  played = (
    suc c.loop-world.invariant.played.0,
    (
      c.loop-world.world.state,
      c.deliver_each.new.world.state,
      c.loop-world.invariant.played.1,
      rw (c.loop-world.invariant.one, c.loop-world.invariant.two) at c.deliver_each.ensures.delivers,
      rw (c.deliver_each.ensures.algorithm_one, c.loop-world.invariant.one, c.deliver_each.ensures.algorithm_two, c.loop-world.invariant.two)
          at c.in_ok-ask_ends.ensures.asks,
    ),
  );
  fixed = c.ask_ends.ensures.fixed ∙ (c.deliver_each.ensures.fixed ∙ c.loop-world.invariant.fixed);
  one = c.ask_ends.ensures.algorithm_one ∙ (c.deliver_each.ensures.algorithm_one ∙ c.loop-world.invariant.one);
  two = c.ask_ends.ensures.algorithm_two ∙ (c.deliver_each.ensures.algorithm_two ∙ c.loop-world.invariant.two);
}
