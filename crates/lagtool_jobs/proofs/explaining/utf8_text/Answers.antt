use Rattle.lagtool_jobs.proofs.Common.{arith, length, ◌+◌, ◌≡◌}
use Rattle.lagtool_jobs.proofs.ExplainedLemmas.{tells_octet}
use Rattle.lagtool_jobs.proofs.explaining.utf8_text.Goals as goal

pub returns : goal.returns
returns c = λ small.
    let next : c.saturating_add.result ≡ length c.args.before.now + 1 = omega (arith, c.saturating_add.ensures, small) in
    tells_octet c.format.result c.name_of.result.now c.args.file.now c.args.before.now c.place_of-place.result.line
    c.place_of-place.result.column c.saturating_add.result c.name_of.ensures (c.place_of-place.ensures.line small)
    (c.place_of-place.ensures.column small) next c.format.ensures.ok
