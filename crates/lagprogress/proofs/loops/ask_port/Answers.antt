use Rattle.lagprogress.proofs.Common.{arith, refl, sym, ◌+◌, ◌∙◌, ◌≡◌, ◌≤◌}
use Rattle.lagprogress.proofs.Looping.{asks_more, asks_port, plays_nothing, refused_ask, stops_asking_port}
use Rattle.lagprogress.proofs.Played.{on_err}
use Rattle.lagprogress.proofs.loops.ask_port.Goals as goal

pub step-requires-clause-one : goal.step-requires-clause-one
step-requires-clause-one g c = rw c.loop-reply.invariant.one c.requires.one

pub step-requires-clause-two : goal.step-requires-clause-two
step-requires-clause-two g c = rw c.loop-reply.invariant.two c.requires.two

pub loop-reply-init : goal.loop-reply-init
loop-reply-init g c = record { played = plays_nothing _ _; risen = omega arith; few = λ few. few; fixed = refl; one = refl; two = refl }

pub returns-in_err-reply-clause-part : goal.returns-in_err-reply-clause-part
returns-in_err-reply-clause-part g c = on_err _ c.in_err-reply.field-0.0 c.from_residual.result c.from_residual.ensures.1
    (stops_asking_port _ _ c.args.system c.args.port _ _ _ c.loop-reply.invariant.played c.in_err-reply.ensures.unchanged
    c.in_err-reply.ensures.refused)

pub returns-in_err-reply-clause-refused : goal.returns-in_err-reply-clause-refused
returns-in_err-reply-clause-refused g c = on_err _ c.in_err-reply.field-0.0 c.from_residual.result c.from_residual.ensures.1
    (refused_ask c.in_err-reply.field-0.0 c.args.system c.args.port c.loop-reply.world.state _ c.requires.named c.in_err-reply.ensures.refused
    c.in_err-reply.ensures.unchanged)

pub loop-reply-preserved : goal.loop-reply-preserved
loop-reply-preserved g c =
    let now : c.step.new.self.state.acted ≡ c.loop-reply.world.state.acted + 1 = c.in_ok-reply.ensures.steps.1 in
    let risen : c.args.world.now.state.acted ≤ c.loop-reply.world.state.acted = c.loop-reply.invariant.risen in
    record {
      played = asks_more _ c.args.system c.args.port c.in_ok-reply.reply _ _ _ c.loop-reply.invariant.played
          (rw (c.loop-reply.invariant.one, c.loop-reply.invariant.two) at c.in_ok-reply.ensures.steps);
      risen = omega (arith, now, risen);
      few = λ few. c.step.ensures.sound.few;
      fixed = c.step.ensures.fixed ∙ c.loop-reply.invariant.fixed;
      one = c.step.ensures.algorithm_one ∙ c.loop-reply.invariant.one;
      two = c.step.ensures.algorithm_two ∙ c.loop-reply.invariant.two;
    }

pub returns-then-sent_nothing-clause-asks : goal.returns-then-sent_nothing-clause-asks
returns-then-sent_nothing-clause-asks g c = asks_port _ c.args.system c.args.port c.in_ok-reply.reply _ _ _ c.loop-reply.invariant.played
    (rw (c.loop-reply.invariant.one, c.loop-reply.invariant.two) at c.in_ok-reply.ensures.steps)
    (sym c.sent_nothing.ensures ∙ c.if-sent_nothing.true)
