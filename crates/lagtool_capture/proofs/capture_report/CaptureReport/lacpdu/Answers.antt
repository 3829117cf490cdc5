use Rattle.lagtool_capture.proofs.ReportingLemmas.{both_named}
use Rattle.lagtool_capture.proofs.capture_report.CaptureReport.lacpdu.Goals as goal

pub returns : goal.returns
returns c = both_named c.put_lacpdu.result c.of.result c.of-2.result c.in_ok-actor.actor c.in_ok-partner.partner c.args.time
    c.args.frame.now c.args.lacpdu c.args.self.now c.name.new.self c.name-2.new.self c.put_lacpdu.new.self c.of.ensures c.of-2.ensures
    c.in_ok-actor.ensures.named c.in_ok-actor.ensures.number c.in_ok-partner.ensures.named c.in_ok-partner.ensures.number c.put_lacpdu.ensures
