use Rattle.lagtool_capture.proofs.Common.{arith, drop, length, take, ◌-◌, take_rest}
use Rattle.lagtool_capture.proofs.TakingLemmas.{ends_behind, ends_whole, reads_more, reads_none, rest_length, stops_by}
use Rattle.lagtool_capture.proofs.taking.take_steps.Goals as goal

pub loop-count-init : goal.loop-count-init
loop-count-init c = record { reads = reads_none _ _ _ _; within = omega arith }

pub returns-then-step-rest-clause-steps : goal.returns-then-step-rest-clause-steps
returns-then-step-rest-clause-steps c = let b = c.args.octets.now in
    let n = c.loop-count.count in
    let i = c.loop-count.invariant in
    ends_behind b _ _ _ _ _ _ n c.in-Ok.step.taken
    (reads_more b (take (length b - n) (drop n b)) c.in-Ok.step c.read.new.self _ _ _ _ _ _ _ _ n (take_rest b n) i.reads c.loop-count-test.true
    c.in-Ok.ensures.taken c.in-Ok.ensures.ok c.in-Ok.ensures.within c.in_ok-observe_any-in-Ok.ensures.reported c.in_ok-observe_any-in-Ok.ensures.noticed)
    i.within c.if-step-rest.true

pub loop-count-preserved : goal.loop-count-preserved
loop-count-preserved c = let b = c.args.octets.now in
    let n = c.loop-count.count in
    let i = c.loop-count.invariant in
    record {
      reads = reads_more b (take (length b - n) (drop n b)) c.in-Ok.step c.read.new.self _ _ _ _ _ _ _ _ n (take_rest b n) i.reads c.loop-count-test.true
          c.in-Ok.ensures.taken c.in-Ok.ensures.ok c.in-Ok.ensures.within c.in_ok-observe_any-in-Ok.ensures.reported c.in_ok-observe_any-in-Ok.ensures.noticed;
      within = omega (arith, i.within, rest_length b c.loop-count.count, c.if-step-rest.false);
    }

pub returns-in-Err-clause-steps : goal.returns-in-Err-clause-steps
returns-in-Err-clause-steps c = stops_by c.args.octets.now c.in-Err.stop c.stopped_at.result _ c.loop-count.reader _ _ _ _ _ _
    c.loop-count.invariant.reads c.loop-count-test.true c.in-Err.ensures.unchanged c.in-Err.ensures.err c.stopped_at.ensures

pub returns-clause-steps : goal.returns-clause-steps
returns-clause-steps c =
    ends_whole c.args.octets.now _ _ _ _ _ _ _ c.loop-count.invariant.reads c.loop-count.invariant.within c.loop-count-test.false
