use Rattle.dataplane.proofs.Common.{arith, refl, ◌+◌, ◌∙◌, ◌≤◌, false≢true, aggregator_numbered}
use Rattle.dataplane.proofs.active.offering.is_elsewhere.Goals as goal
use Rattle.dataplane.proofs.active.offering.is_elsewhere.Goals.{else-other-agg-via-then-other-agg+else-is_busy}

pub returns-then-is_busy : goal.returns-then-is_busy
returns-then-is_busy g c = let most = c.last_aggregator-last.ensures.most in
    let below = c.loop-number-test.true in (
      λ t. record {
        other = aggregator_numbered (c.loop-number.number + 1);
        is = record { first = omega arith; last = omega (arith, most, below); number = omega arith };
        differs = c.if-other-agg.true;
        busy = c.is_busy.ensures.0 c.if-is_busy.true;
      },
      λ z. refl,
    )

pub loop-number-preserved : goal.loop-number-preserved
loop-number-preserved g c = grind arith

pub returns : goal.returns
returns g c = (
  λ t. absurd (false≢true t),
  λ z.
      let all : z.other.0 ≤ c.last_aggregator-last.result = c.last_aggregator-last.ensures.all z.other z.is in
      let end = c.loop-number-test.false in
      absurd (c.loop-number.invariant z (omega (arith, all, end))),
)
