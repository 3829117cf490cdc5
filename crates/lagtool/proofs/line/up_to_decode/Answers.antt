use Rattle.std.proofs.lemmas.Result.{IfOk-weaker}
use Rattle.lagtool.proofs.LineLemmas.{one_more}
use Rattle.lagtool.proofs.line.up_to_decode.Goals as goal

pub returns : goal.returns
returns c = IfOk-weaker c.subcommand.result _ _
    (λ m h. one_more _ _ m _ _ h c.in_ok-decode_line.ensures.local c.in_ok-program_alone.ensures c.in_ok-decode_line.ensures.app) c.subcommand.ensures
