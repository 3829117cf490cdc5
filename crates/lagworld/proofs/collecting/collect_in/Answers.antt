use Rattle.lagworld.proofs.Common.{arith, with_collected}
use Rattle.lagworld.proofs.CollectingLemmas.{put_collected, more_serials}
use Rattle.lagworld.proofs.FlowLemmas.{flow_set}
use Rattle.lagworld.proofs.collecting.collect_in.Goals as goal

pub returns : goal.returns
returns c = flow_set (with_collected c.args.serial) c.args.conversations.now.items c.args.conv c.index_mut-flow.result.now
    (put_collected c.index_mut-flow.result.now c.push_reserved.new.self)
    (omega (arith, c.if-conv-len.false, c.len.ensures, c.args.conversations.now.ok.0)) c.index_mut-flow.ensures.value
    (more_serials c.index_mut-flow.result.now c.push_reserved.new.self c.args.serial c.push_reserved.ensures.items)
