use Rattle.std.proofs.lemmas.Result.{IfOk-weaker}
use Rattle.lagtool.proofs.LineLemmas.{one_more}
use Rattle.lagtool.proofs.line.up_to_replay.Goals as goal

pub returns : goal.returns
returns c = IfOk-weaker c.subcommand.result _ _
    (λ m h. one_more _ _ m _ _ h c.in_ok-replay_line.ensures.local c.in_ok-up_to_capture.ensures c.in_ok-replay_line.ensures.app) c.subcommand.ensures
