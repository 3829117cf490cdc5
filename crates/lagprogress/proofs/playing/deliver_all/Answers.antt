use Rattle.lagprogress.proofs.Common.{◌∙◌}
use Rattle.lagprogress.proofs.Played.{delivers_both, on_err}
use Rattle.lagprogress.proofs.playing.deliver_all.Goals as goal

pub deliver_each-requires-clause-one : goal.deliver_each-requires-clause-one
deliver_each-requires-clause-one g c = rw c.loop.invariant.one c.requires.one

pub deliver_each-requires-clause-two : goal.deliver_each-requires-clause-two
deliver_each-requires-clause-two g c = rw c.loop.invariant.two c.requires.two

pub returns-in_err-deliver_each-clause-delivers : goal.returns-in_err-deliver_each-clause-delivers
returns-in_err-deliver_each-clause-delivers g c = delivers_both _ _ _ _ c.loop.invariant.delivers
    (rw (c.loop.invariant.one, c.loop.invariant.two) at c.deliver_each.ensures.delivers)

pub returns-in_err-deliver_each-clause-next : goal.returns-in_err-deliver_each-clause-next
returns-in_err-deliver_each-clause-next g c =
    on_err _ c.in_err-deliver_each.field-0.0 c.from_residual.result c.from_residual.ensures.1 c.in_err-deliver_each.ensures.next

pub returns-then-branch-clause-delivers : goal.returns-then-branch-clause-delivers
returns-then-branch-clause-delivers g c = delivers_both _ _ _ _ c.loop.invariant.delivers
    (rw (c.loop.invariant.one, c.loop.invariant.two) at c.deliver_each.ensures.delivers)

pub loop-preserved : goal.loop-preserved
loop-preserved g c = record {
  delivers = delivers_both _ _ _ _ c.loop.invariant.delivers
      (rw (c.loop.invariant.one, c.loop.invariant.two) at c.deliver_each.ensures.delivers);
  fixed = c.deliver_each.ensures.fixed ∙ c.loop.invariant.fixed;
  one = c.deliver_each.ensures.algorithm_one ∙ c.loop.invariant.one;
  two = c.deliver_each.ensures.algorithm_two ∙ c.loop.invariant.two;
}
