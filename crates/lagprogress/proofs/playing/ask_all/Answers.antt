use Rattle.lagprogress.proofs.Common.{arith, sym, ◌∙◌}
use Rattle.lagprogress.proofs.Played.{asks_more, asks_part, on_err}
use Rattle.lagprogress.proofs.playing.ask_all.Goals as goal

pub play-requires-clause-one : goal.play-requires-clause-one
play-requires-clause-one g c = rw c.loop-asked.invariant.one c.requires.one

pub play-requires-clause-two : goal.play-requires-clause-two
play-requires-clause-two g c = rw c.loop-asked.invariant.two c.requires.two

pub returns-in_err-play-clause-part : goal.returns-in_err-play-clause-part
returns-in_err-play-clause-part g c = on_err _ c.in_err-play.field-0.0 c.from_residual.result c.from_residual.ensures.1
    (asks_part _ c.loop-asked.asked c.in-Some.one c.in-Some.two _ _ _ _ c.loop-asked.invariant.acts c.loop-asked.invariant.fixed
    (sym c.in-Some.is ∙ c.ends.ensures) (rw (c.loop-asked.invariant.one, c.loop-asked.invariant.two) at c.in_err-play.ensures.part))

pub loop-asked-preserved : goal.loop-asked-preserved
loop-asked-preserved g c = record {
  within = omega (arith, c.loop-asked-test.true);
  acts = asks_more _ c.loop-asked.asked c.in-Some.one c.in-Some.two _ _ _ c.loop-asked.invariant.acts c.loop-asked.invariant.fixed
      (sym c.in-Some.is ∙ c.ends.ensures) (rw (c.loop-asked.invariant.one, c.loop-asked.invariant.two) at c.in_ok-play.ensures.all);
  fixed = c.play.ensures.fixed ∙ c.loop-asked.invariant.fixed;
  one = c.play.ensures.algorithm_one ∙ c.loop-asked.invariant.one;
  two = c.play.ensures.algorithm_two ∙ c.loop-asked.invariant.two;
}
