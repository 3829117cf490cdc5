use Rattle.lagprogress.proofs.Common.{arith, length, refl, ◌+◌, ◌<◌, ◌∙◌, ◌≡◌, ◌≤◌, One, Two, Algorithms, both_algorithms, IsOutOfMemoryOrSpent}
use Rattle.lagprogress.proofs.Common.{RefusesDelivery}
use Rattle.lagprogress.proofs.Played.{delivery_refused, nothing_before, nothing_left, on_err, one_more, quiet_more, refused_delivery}
use Rattle.lagprogress.proofs.playing.deliver_each.Goals as goal

pub step-requires-clause-one : goal.step-requires-clause-one
step-requires-clause-one g c = rw c.loop-seen.invariant.one c.requires.one

pub step-requires-clause-two : goal.step-requires-clause-two
step-requires-clause-two g c = rw c.loop-seen.invariant.two c.requires.two

pub step-requires-in-loop-seen-clause-one : goal.step-requires-in-loop-seen-clause-one
step-requires-in-loop-seen-clause-one g c = rw (c.step.ensures.algorithm_one, c.loop-seen.invariant.one) c.requires.one

pub step-requires-in-loop-seen-clause-two : goal.step-requires-in-loop-seen-clause-two
step-requires-in-loop-seen-clause-two g c = rw (c.step.ensures.algorithm_two, c.loop-seen.invariant.two) c.requires.two

pub returns-in_err-first-clause-refused : goal.returns-in_err-first-clause-refused
returns-in_err-first-clause-refused g c =
    let within : c.loop-seen.seen < length c.args.world.now.state.links = omega (arith, c.loop-seen-test.true, c.requires.counted) in
    on_err (λ fault. IsOutOfMemoryOrSpent fault c.step.new.self.state) c.in_err-first.field-0.0 c.from_residual.result c.from_residual.ensures.1
    (refused_delivery c.in_err-first.field-0.0 1 c.loop-seen.seen One c.args.world.now.state c.loop-seen.world.state c.step.new.self.state refl
    within c.loop-seen.invariant.fixed c.in_err-first.ensures.refused c.in_err-first.ensures.unchanged)

pub returns-in_err-second-clause-refused : goal.returns-in_err-second-clause-refused
returns-in_err-second-clause-refused g c =
    let within : c.loop-seen.seen < length c.args.world.now.state.links = omega (arith, c.loop-seen-test.true, c.requires.counted) in
    on_err (λ fault. IsOutOfMemoryOrSpent fault c.step-in-loop-seen.new.self.state) c.in_err-second.field-0.0
    c.from_residual-in_err-second.result c.from_residual-in_err-second.ensures.1
    (refused_delivery c.in_err-second.field-0.0 2 c.loop-seen.seen Two c.args.world.now.state c.step.new.self.state
    c.step-in-loop-seen.new.self.state refl within (c.step.ensures.fixed ∙ c.loop-seen.invariant.fixed) c.in_err-second.ensures.refused
    c.in_err-second.ensures.unchanged)

pub returns-in_err-first-clause-next : goal.returns-in_err-first-clause-next
returns-in_err-first-clause-next g c =
    on_err (λ fault. RefusesDelivery fault c.step.new.self.state) c.in_err-first.field-0.0 c.from_residual.result c.from_residual.ensures.1
    (delivery_refused c.in_err-first.field-0.0 (c.loop-seen.seen + 1) 1 c.loop-seen.world.state c.step.new.self.state
    c.in_err-first.ensures.unchanged c.in_err-first.ensures.refused)

pub returns-in_err-second-clause-next : goal.returns-in_err-second-clause-next
returns-in_err-second-clause-next g c =
    on_err (λ fault. RefusesDelivery fault c.step-in-loop-seen.new.self.state) c.in_err-second.field-0.0
    c.from_residual-in_err-second.result c.from_residual-in_err-second.ensures.1
    (delivery_refused c.in_err-second.field-0.0 (c.loop-seen.seen + 1) 2 c.step.new.self.state c.step-in-loop-seen.new.self.state
    c.in_err-second.ensures.unchanged c.in_err-second.ensures.refused)

pub returns-in_err-second-clause-delivers : goal.returns-in_err-second-clause-delivers
returns-in_err-second-clause-delivers g c = rw c.in_err-second.ensures.unchanged
    (one_more _ (c.loop-seen.seen + 1) 1 c.in_ok-first.first _ _ _ c.loop-seen.invariant.delivers
    (rw (c.loop-seen.invariant.one, c.loop-seen.invariant.two) at c.in_ok-first.ensures.steps))

pub returns-clause-empties : goal.returns-clause-empties
returns-clause-empties g c =
    let past : length c.args.world.now.state.links ≤ c.loop-seen.seen = omega (arith, c.loop-seen-test.false, c.requires.counted) in
    λ all. nothing_left c.loop-seen.seen c.args.world.now.state c.loop-seen.world.state past (c.loop-seen.invariant.quiet all)

pub returns-clause-empty : goal.returns-clause-empty
returns-clause-empty g c =
    let past : length c.args.world.now.state.links ≤ c.loop-seen.seen = omega (arith, c.loop-seen-test.false, c.requires.counted) in
    λ all. nothing_before c.loop-seen.seen c.args.world.now.state c.loop-seen.world.state past (c.loop-seen.invariant.quiet all)

pub loop-seen-preserved : goal.loop-seen-preserved
loop-seen-preserved g c =
    let gives : Algorithms = both_algorithms (λ conv count place. g.F.Fn.post c.args.world.now.one (conv, (count, tt)) place)
    (λ conv count place. g.F.Fn.post c.args.world.now.two (conv, (count, tt)) place) in
    let start = c.args.world.now.state in
    let old = c.loop-seen.world.state in
    let mid = c.step.new.self.state in
    let new = c.step-in-loop-seen.new.self.state in
    let first : mid.acted ≡ old.acted + 1 = c.in_ok-first.ensures.steps.1 in
    let second : new.acted ≡ mid.acted + 1 = c.in_ok-second.ensures.steps.1 in
    let risen : start.acted ≤ old.acted = c.loop-seen.invariant.risen in
    let x = rw (c.loop-seen.invariant.one, c.loop-seen.invariant.two) at c.in_ok-first.ensures.steps in
    let y = rw (c.step.ensures.algorithm_one, c.loop-seen.invariant.one, c.step.ensures.algorithm_two, c.loop-seen.invariant.two)
    at c.in_ok-second.ensures.steps in
    record {
      within = omega (arith, c.loop-seen-test.true);
      delivers = one_more _ (c.loop-seen.seen + 1) 2 c.in_ok-second.second start mid new
          (one_more _ (c.loop-seen.seen + 1) 1 c.in_ok-first.first start old mid c.loop-seen.invariant.delivers x) y;
      quiet = quiet_more gives c.loop-seen.seen c.in_ok-first.first c.in_ok-second.second c.loop-seen.empty c.all_empty-empty.result start old mid new
          c.loop-seen.invariant.quiet x y c.all_empty-empty.ensures;
      risen = omega (arith, first, second, risen);
      acted = λ some. omega (arith, first, second, risen);
      few = λ some. c.step-in-loop-seen.ensures.sound.few;
      fixed = c.step-in-loop-seen.ensures.fixed ∙ (c.step.ensures.fixed ∙ c.loop-seen.invariant.fixed);
      one = c.step-in-loop-seen.ensures.algorithm_one ∙ (c.step.ensures.algorithm_one ∙ c.loop-seen.invariant.one);
      two = c.step-in-loop-seen.ensures.algorithm_two ∙ (c.step.ensures.algorithm_two ∙ c.loop-seen.invariant.two);
    }
