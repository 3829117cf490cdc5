use Rattle.lagworld.proofs.Common.{ap, arith, length, sym, ◌∙◌, sent_in, with_sent}
use Rattle.lagworld.proofs.FlowLemmas.{row_set, row_read, no_row_set, no_row_read, room_there}
use Rattle.lagworld.proofs.serials.record_frame_sent.Goals as goal

pub record_sent_in-requires : goal.record_sent_in-requires
record_sent_in-requires c =
    room_there c.args.flows.now.items c.args.agg.0 c.in-Some.index c.from.result c.args.conv c.index_mut-conversations.result.now
    c.in-Some.ensures.there.0 c.from.ensures (omega (arith, c.in-Some.ensures.there.1)) c.index_mut-conversations.ensures.value c.requires

pub returns-in-Some-clause-serial : goal.returns-in-Some-clause-serial
returns-in-Some-clause-serial c = c.record_sent_in.ensures.serial ∙ ap (λ o. length (sent_in o))
    (row_read c.args.flows.now.items c.args.agg.0 c.in-Some.index c.from.result c.args.conv c.index_mut-conversations.result.now
    c.in-Some.ensures.there.0 c.from.ensures (omega (arith, c.in-Some.ensures.there.1)) c.index_mut-conversations.ensures.value)

pub returns-in-Some-clause-sent : goal.returns-in-Some-clause-sent
returns-in-Some-clause-sent c =
    row_set with_sent c.args.flows.now.items c.args.agg.0 c.in-Some.index c.from.result c.args.conv c.index_mut-conversations.result.now
    c.record_sent_in.new.conversations c.in-Some.ensures.there.0 c.from.ensures (omega (arith, c.in-Some.ensures.there.1))
    c.index_mut-conversations.ensures.value c.record_sent_in.ensures.sent

pub returns-in-None-clause-serial : goal.returns-in-None-clause-serial
returns-in-None-clause-serial c =
    sym (ap (λ o. length (sent_in o)) (no_row_read c.args.flows.now.items c.args.agg.0 c.args.conv _ c.in-None.ensures.nowhere (omega arith)))

pub returns-in-None-clause-sent : goal.returns-in-None-clause-sent
returns-in-None-clause-sent c = no_row_set with_sent c.args.flows.now.items c.args.agg.0 c.args.conv _ c.in-None.ensures.nowhere (omega arith)
