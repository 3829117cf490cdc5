use Rattle.lagtool_capture.proofs.Common.{ap, ◌∙◌, end_index, ReportState}
use Rattle.lagtool_capture.proofs.ReportingLemmas.{indexed}
use Rattle.lagtool_capture.proofs.capture_report.CaptureReport.put_lacpdu.Goals as goal

pub returns : goal.returns
returns c = indexed c.enter.result c.end_index-index.result c.args.actor c.args.partner c.args.time c.args.frame.now c.args.lacpdu
    c.args.self.now c.put_line.new.self c.enter.new.self c.last_shown.result c.of-shown.result c.end-sender.result c.end-sender.ensures
    (c.end_index-index.ensures.index ∙ ap (λ es. end_index es c.end-sender.result) c.deref.ensures.value
    ∙ ap (λ (s : ReportState). end_index s.ends c.end-sender.result) c.self.view_is)
    c.last_shown.ensures c.of-shown.ensures c.in_ok-put_line.ensures c.enter.ensures
