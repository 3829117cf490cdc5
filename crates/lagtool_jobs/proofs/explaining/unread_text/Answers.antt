use Rattle.lagtool_jobs.proofs.Common.{length, string_bytes, sym, take, take-length, is_input}
use Rattle.lagtool_jobs.proofs.ExplainedLemmas.{names_file}
use Rattle.lagtool_jobs.proofs.explaining.unread_text.Goals as goal

pub returns : goal.returns
returns g c = let file = c.args.file.now in
    names_file c.format.result (is_input file) (take (length file) file) file (string_bytes c.in_ok-why.why) (sym c.if-eq.ensures)
    (take-length file) c.format.ensures.ok
