use Rattle.lagworld.proofs.Common.{arith, length, ◌+◌, ◌<◌, ◌≡◌, with_collected}
use Rattle.lagworld.proofs.FlowLemmas.{row_set}
use Rattle.lagworld.proofs.collecting.collect.Goals as goal

pub returns : goal.returns
returns c =
    let lt : c.in-Some.index < length c.args.flows.now.items = omega (arith, c.if-index-len.false, c.len.ensures, c.args.flows.now.ok.0) in
    let is : c.args.agg ≡ c.in-Some.index + 1 = omega (arith, c.in-Some.ensures.0, c.in-Some.ensures.1, c.from.ensures) in
    row_set (with_collected c.args.serial) c.args.flows.now.items c.args.agg c.in-Some.index c.from-2.result c.args.conv
    c.index_mut-conversations.result.now c.collect_in.new.conversations is c.from-2.ensures lt
    c.index_mut-conversations.ensures.value c.collect_in.ensures
