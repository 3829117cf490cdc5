use Rattle.std.proofs.Common.{List, ℕ, rules, ◌++◌, ◌≡◌}
use Rattle.lagtool_jobs.specs.ReplayReport.{IsReportOfScript}
use Rattle.lagpage.specs.Scripts.{by_number}
use Rattle.lagpage.proofs.UtfLemmas.{tells_report}
use Rattle.lagpage.proofs.of_script.told_of_script.Goals as goal

pub returns-in-Ok : goal.returns-in-Ok
returns-in-Ok c = let report : List ℕ = c.in-Ok.ensures.0 in
    let is : IsReportOfScript by_number c.args.text.now report = c.in-Ok.ensures.1 in
    let written : c.replay.new.sink.writer.items ≡ c.new-sink.result.writer.items ++ report = c.in-Ok.ensures.2.written in
    let printed : c.into_inner.result.items ≡ report = search (rules, written) in
    tells_report c.args.text.now c.into_inner.result.items report c.make_told.result is printed c.make_told.ensures
