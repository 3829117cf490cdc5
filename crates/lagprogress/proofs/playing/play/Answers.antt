use Rattle.lagprogress.proofs.Common.{arith, ◌∙◌}
use Rattle.lagprogress.proofs.Played.{on_err, refused_one, runs_next, stopped_part}
use Rattle.lagprogress.proofs.playing.play.Goals as goal

pub step-requires-clause-one : goal.step-requires-clause-one
step-requires-clause-one g c = rw c.loop-acted.invariant.one c.requires.one

pub step-requires-clause-two : goal.step-requires-clause-two
step-requires-clause-two g c = rw c.loop-acted.invariant.two c.requires.two

pub returns-in_err-step-clause-part : goal.returns-in_err-step-clause-part
returns-in_err-step-clause-part g c = on_err _ c.in_err-step.field-0.0 c.from_residual.result c.from_residual.ensures.1
    (stopped_part _ c.args.events.now c.loop-acted.acted c.index-events-acted.result _ _ _ _ c.loop-acted-test.true c.index-events-acted.is
    c.loop-acted.invariant.acts c.in_err-step.ensures.unchanged c.in_err-step.ensures.refused c.in_err-step.ensures.memory)

pub returns-in_err-step-clause-refused : goal.returns-in_err-step-clause-refused
returns-in_err-step-clause-refused g c = on_err _ c.in_err-step.field-0.0 c.from_residual.result c.from_residual.ensures.1
    (refused_one _ c.args.events.now c.loop-acted.acted c.index-events-acted.result _ _ c.loop-acted-test.true c.index-events-acted.is
    c.in_err-step.ensures.unchanged c.in_err-step.ensures.refused c.in_err-step.ensures.memory)

pub loop-acted-preserved : goal.loop-acted-preserved
loop-acted-preserved g c = record {
  within = omega (arith, c.loop-acted-test.true);
  acts = runs_next _ c.args.events.now c.loop-acted.acted c.index-events-acted.result _ _ _ _ c.loop-acted-test.true
      c.index-events-acted.is c.loop-acted.invariant.acts
      (rw (c.loop-acted.invariant.one, c.loop-acted.invariant.two) at c.in_ok-step.ensures.steps);
  fixed = c.step.ensures.fixed ∙ c.loop-acted.invariant.fixed;
  one = c.step.ensures.algorithm_one ∙ c.loop-acted.invariant.one;
  two = c.step.ensures.algorithm_two ∙ c.loop-acted.invariant.two;
}
