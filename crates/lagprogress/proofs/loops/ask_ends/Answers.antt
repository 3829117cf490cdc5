use Rattle.lagprogress.proofs.Common.{arith, length, refl, sym, ◌<◌, ◌∙◌, ◌≡◌}
use Rattle.lagprogress.proofs.Looping.{asks_none, asks_one_more, cable_there, stops_later}
use Rattle.lagprogress.proofs.Played.{on_err}
use Rattle.lagprogress.proofs.loops.ask_ends.Goals as goal

pub ask_port-requires-clause-one : goal.ask_port-requires-clause-one
ask_port-requires-clause-one g c = rw c.loop-asked.invariant.one c.requires.one

pub ask_port-requires-clause-two : goal.ask_port-requires-clause-two
ask_port-requires-clause-two g c = rw c.loop-asked.invariant.two c.requires.two

pub ask_port-requires-in-loop-asked-clause-one : goal.ask_port-requires-in-loop-asked-clause-one
ask_port-requires-in-loop-asked-clause-one g c = rw (c.ask_port.ensures.algorithm_one, c.loop-asked.invariant.one) c.requires.one

pub ask_port-requires-in-loop-asked-clause-two : goal.ask_port-requires-in-loop-asked-clause-two
ask_port-requires-in-loop-asked-clause-two g c = rw (c.ask_port.ensures.algorithm_two, c.loop-asked.invariant.two) c.requires.two

pub loop-asked-init : goal.loop-asked-init
loop-asked-init g c = record {
  within = omega arith;
  asks = asks_none _ _;
  risen = omega arith;
  few = λ few. few;
  fixed = refl;
  one = refl;
  two = refl;
}

pub returns-in_default-clause-part : goal.returns-in_default-clause-part
returns-in_default-clause-part g c =
    let within : c.loop-asked.asked < length c.args.world.now.state.links = omega (arith, c.loop-asked-test.true, c.requires.counted) in
    let there = cable_there c.loop-asked.asked c.args.world.now.state c.loop-asked.world.state within c.loop-asked.invariant.fixed in
    absurd (c.in_default.not-Some _ (c.ends.ensures ∙ there.1))

pub returns-in_default-clause-refused : goal.returns-in_default-clause-refused
returns-in_default-clause-refused g c =
    let within : c.loop-asked.asked < length c.args.world.now.state.links = omega (arith, c.loop-asked-test.true, c.requires.counted) in
    let there = cable_there c.loop-asked.asked c.args.world.now.state c.loop-asked.world.state within c.loop-asked.invariant.fixed in
    absurd (c.in_default.not-Some _ (c.ends.ensures ∙ there.1))

pub returns-clause-asks : goal.returns-clause-asks
returns-clause-asks g c =
    let none_left : c.args.count ≡ c.loop-asked.asked = omega (arith, c.loop-asked.invariant.within, c.loop-asked-test.false) in
    rw none_left c.loop-asked.invariant.asks

pub returns-in_err-first-clause-part : goal.returns-in_err-first-clause-part
returns-in_err-first-clause-part g c = on_err _ c.in_err-first.field-0.0 c.from_residual.result c.from_residual.ensures.1
    (stops_later _ _ _ _ _ c.loop-asked.invariant.asks.played
    (rw (c.loop-asked.invariant.one, c.loop-asked.invariant.two) at c.in_err-first.ensures.part))

pub returns-in_err-second-clause-part : goal.returns-in_err-second-clause-part
returns-in_err-second-clause-part g c = on_err _ c.in_err-second.field-0.0 c.from_residual-in_err-second.result
    c.from_residual-in_err-second.ensures.1
    (stops_later _ _ _ _ _ c.loop-asked.invariant.asks.played (stops_later _ _ _ _ _
    (rw (c.loop-asked.invariant.one, c.loop-asked.invariant.two) at c.in_ok-first.ensures.asks).played
    (rw (c.ask_port.ensures.algorithm_one, c.loop-asked.invariant.one, c.ask_port.ensures.algorithm_two, c.loop-asked.invariant.two)
    at c.in_err-second.ensures.part)))

pub loop-asked-preserved : goal.loop-asked-preserved
loop-asked-preserved g c = record {
  within = omega (arith, c.loop-asked-test.true);
  asks = asks_one_more _ c.loop-asked.asked c.in-Some.one c.in-Some.two _ _ _ _ c.loop-asked.invariant.asks c.loop-asked.invariant.fixed
      (sym c.in-Some.is ∙ c.ends.ensures) (rw (c.loop-asked.invariant.one, c.loop-asked.invariant.two) at c.in_ok-first.ensures.asks)
      (rw (c.ask_port.ensures.algorithm_one, c.loop-asked.invariant.one, c.ask_port.ensures.algorithm_two, c.loop-asked.invariant.two)
      at c.in_ok-second.ensures.asks);
  risen = omega (arith, c.loop-asked.invariant.risen, c.ask_port.ensures.risen, c.ask_port-in-loop-asked.ensures.risen);
  few = λ few. c.ask_port-in-loop-asked.ensures.few (c.ask_port.ensures.few (c.loop-asked.invariant.few few));
  fixed = c.ask_port-in-loop-asked.ensures.fixed ∙ (c.ask_port.ensures.fixed ∙ c.loop-asked.invariant.fixed);
  one = c.ask_port-in-loop-asked.ensures.algorithm_one ∙ (c.ask_port.ensures.algorithm_one ∙ c.loop-asked.invariant.one);
  two = c.ask_port-in-loop-asked.ensures.algorithm_two ∙ (c.ask_port.ensures.algorithm_two ∙ c.loop-asked.invariant.two);
}
