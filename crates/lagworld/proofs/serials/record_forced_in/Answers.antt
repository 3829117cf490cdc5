use Rattle.lagworld.proofs.Common.{arith, with_forced}
use Rattle.lagworld.proofs.FlowLemmas.{flow_set}
use Rattle.lagworld.proofs.serials.record_forced_in.Goals as goal

pub returns : goal.returns
returns c = flow_set with_forced c.args.conversations.now.items c.args.conv c.index_mut-flow.result.now c.record_forced.new.self
    (omega arith) c.index_mut-flow.ensures.value c.record_forced.ensures
