use Rattle.std.proofs.Common.{◌∙◌, ap, codes}
use Rattle.std.proofs.lemmas.Result.{IfOk-weaker}
use Rattle.clap.specs.Words.{App, with_rule}
use Rattle.lagtool.specs.Lines.{required_argument}
use Rattle.lagtool.proofs.line.replay_line.Goals as goal

pub returns-clause-app : goal.returns-clause-app
returns-clause-app c = IfOk-weaker c.with_argument.result _ _
    (λ m h. h ∙ ap (λ (a : App). with_rule a (required_argument (codes "SCRIPT"))) c.subcommand-replay.ensures.app) c.with_argument.ensures.app

pub returns-clause-local : goal.returns-clause-local
returns-clause-local c = IfOk-weaker c.with_argument.result _ _ (λ m h. h c.subcommand-replay.ensures.local) c.with_argument.ensures.local
