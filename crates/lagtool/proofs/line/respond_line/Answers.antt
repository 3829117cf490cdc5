use Rattle.std.proofs.Common.{◌≡◌, ◌∙◌, ap, codes}
use Rattle.std.proofs.lemmas.Result.{IfOk-weaker}
use Rattle.clap.specs.Words.{App, app_of, new_app, with_rule}
use Rattle.lagtool.specs.Lines.{required_argument}
use Rattle.lagtool.proofs.line.respond_line.Goals as goal

pub returns-clause-app : goal.returns-clause-app
returns-clause-app c =
    let mac : app_of c.in_ok-respond.respond ≡ with_rule (new_app (codes "respond")) (required_argument (codes "MAC")) =
    c.in_ok-respond.ensures.app ∙ ap (λ (a : App). with_rule a (required_argument (codes "MAC"))) c.subcommand-respond.ensures.app in
    IfOk-weaker c.with_argument-2.result _ _
    (λ m h. h ∙ ap (λ (a : App). with_rule a (required_argument (codes "HEX"))) mac) c.with_argument-2.ensures.app

pub returns-clause-local : goal.returns-clause-local
returns-clause-local c = IfOk-weaker c.with_argument-2.result _ _
    (λ m h. h (c.in_ok-respond.ensures.local c.subcommand-respond.ensures.local)) c.with_argument-2.ensures.local
