use Rattle.lagworld.proofs.Common.{arith, flow_value}
use Rattle.lagworld.proofs.Putting.{same_at}
use Rattle.lagworld.proofs.CollectingLemmas.{put_collected, same_serials, room_there}
use Rattle.lagworld.proofs.collecting.reserve_collected_in.Goals as goal

pub returns-clause-same : goal.returns-clause-same
returns-clause-same c = same_at flow_value c.args.conversations.now.items c.args.conv c.index_mut-flow.result.now
    (put_collected c.index_mut-flow.result.now c.reserve.new.self) c.index_mut-flow.ensures.value
    (same_serials c.index_mut-flow.result.now c.reserve.new.self c.reserve.ensures.items)

pub returns-clause-room : goal.returns-clause-room
returns-clause-room c =
    room_there c.reserve.result c.args.conversations.now.items c.args.conv c.index_mut-flow.result.now c.reserve.new.self
    (omega (arith, c.if-conv-len.false, c.len.ensures, c.args.conversations.now.ok.0)) c.index_mut-flow.ensures.value c.reserve.ensures.ok
