use Rattle.lagtool_capture.proofs.FrameLemmas.{follows_none, follows_some, observed_none, observed_some}
use Rattle.lagtool_capture.proofs.ReportingLemmas.{on_ok-map}
use Rattle.lagtool_capture.proofs.taking.observe_packet.Goals as goal

pub returns-in-Some-clause-reported : goal.returns-in-Some-clause-reported
returns-in-Some-clause-reported c = observed_some c.observe-in-Some.result c.args.packet.now c.args.octets.now c.count-number.result c.frame_in.result
    c.in-Some.frame c.args.report.now c.count-number.new.self c.observe-in-Some.new.self c.count-number.ensures.number c.count-number.ensures.counted
    c.frame_in.ensures c.in-Some.is c.observe-in-Some.ensures

pub returns-in-Some-clause-noticed : goal.returns-in-Some-clause-noticed
returns-in-Some-clause-noticed c = let p = c.args.packet.now in
    let b = c.args.octets.now in
    let number = c.count-number.ensures.number in
    on_ok-map c.observe-in-Some.result
    (λ seen l i. follows_some p b l c.count-number.result c.frame_in.result c.args.report.now c.observe-in-Some.new.self c.args.noticed.now
    c.note_time.new.self i number c.frame_in.ensures c.note_time.ensures seen c.in-Some.frame c.observe.new.self c.in-Some.is
    c.observe.ensures.until c.observe.ensures.frames)
    (observed_some c.observe-in-Some.result p b c.count-number.result c.frame_in.result c.in-Some.frame c.args.report.now c.count-number.new.self
    c.observe-in-Some.new.self number c.count-number.ensures.counted c.frame_in.ensures c.in-Some.is c.observe-in-Some.ensures)

pub returns-in-None-clause-reported : goal.returns-in-None-clause-reported
returns-in-None-clause-reported c = observed_none c.args.packet.now c.args.octets.now c.count-number.result c.frame_in.result c.args.report.now
    c.count-number.new.self c.count-number.ensures.number c.count-number.ensures.counted c.frame_in.ensures c.in-None.is

pub returns-in-None-clause-noticed : goal.returns-in-None-clause-noticed
returns-in-None-clause-noticed c = λ l i.
    let p = c.args.packet.now in
    let b = c.args.octets.now in
    let number = c.count-number.ensures.number in
    follows_none p b l c.count-number.result c.frame_in.result c.args.report.now c.count-number.new.self c.args.noticed.now c.note_time.new.self
    i number c.frame_in.ensures c.note_time.ensures
    (observed_none p b c.count-number.result c.frame_in.result c.args.report.now c.count-number.new.self number c.count-number.ensures.counted
    c.frame_in.ensures c.in-None.is) c.in-None.is
