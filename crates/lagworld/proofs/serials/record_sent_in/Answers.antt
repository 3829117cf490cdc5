use Rattle.lagworld.proofs.Common.{arith, ◌∙◌, with_sent}
use Rattle.lagworld.proofs.FlowLemmas.{flow_set, flow_read}
use Rattle.lagworld.proofs.serials.record_sent_in.Goals as goal

pub returns-clause-serial : goal.returns-clause-serial
returns-clause-serial c = c.record_sent.ensures.serial ∙ flow_read c.args.conversations.now.items c.args.conv c.index_mut-flow.result.now
    (omega arith) c.index_mut-flow.ensures.value

pub returns-clause-sent : goal.returns-clause-sent
returns-clause-sent c = flow_set with_sent c.args.conversations.now.items c.args.conv c.index_mut-flow.result.now c.record_sent.new.self
    (omega arith) c.index_mut-flow.ensures.value c.record_sent.ensures.sent
