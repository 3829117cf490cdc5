use Rattle.lagworld.proofs.Common.{arith, length, ◌+◌, ◌<◌, ◌≡◌, aggregator_flow_values}
use Rattle.lagworld.proofs.Putting.{same_at}
use Rattle.lagworld.proofs.CollectingLemmas.{room_at}
use Rattle.lagworld.proofs.collecting.reserve_collected.Goals as goal

pub returns-clause-same : goal.returns-clause-same
returns-clause-same c = same_at aggregator_flow_values c.args.flows.now.items c.in-Some.index c.index_mut-conversations.result.now
    c.reserve_collected_in.new.conversations c.index_mut-conversations.ensures.value c.reserve_collected_in.ensures.same

pub returns-clause-room : goal.returns-clause-room
returns-clause-room c =
    let lt : c.in-Some.index < length c.args.flows.now.items = omega (arith, c.if-index-len.false, c.len.ensures, c.args.flows.now.ok.0) in
    let is : c.args.agg ≡ c.in-Some.index + 1 = omega (arith, c.in-Some.ensures.0, c.in-Some.ensures.1, c.from.ensures) in
    room_at c.reserve_collected_in.result c.args.flows.now.items c.args.agg c.in-Some.index c.args.conv c.from-2.result
    c.index_mut-conversations.result.now c.reserve_collected_in.new.conversations is c.from-2.ensures lt
    c.index_mut-conversations.ensures.value c.reserve_collected_in.ensures.room
