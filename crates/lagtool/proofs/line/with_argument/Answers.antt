use Rattle.std.proofs.Common.{rules, ◌≡◌, ◌∙◌, ap₂, ◌||◌, false}
use Rattle.std.proofs.lemmas.Result.{IfOk-weaker}
use Rattle.lagtool.proofs.line.with_argument.Goals as goal

pub returns-clause-local : goal.returns-clause-local
returns-clause-local c = let own : c.help.result.global ≡ false = search rules in
    IfOk-weaker c.arg.result _ _ (λ m h above. h.globals ∙ ap₂ (λ x y. x || y) above own) c.arg.ensures
