use Rattle.lagtool_jobs.proofs.Common.{ap, arith, string_bytes, ◌+◌, ◌∙◌, ◌≡◌, digits_first}
use Rattle.lagtool_jobs.proofs.ExplainedLemmas.{says_character}
use Rattle.lagtool_jobs.proofs.explaining.digits_text.Goals as goal

pub returns-clause-character : goal.returns-clause-character
returns-clause-character c = λ few.
    let counted : c.digits_first-digits.result ≡ digits_first c.args.word.now = c.digits_first-digits.ensures
    ∙ ap digits_first c.as_bytes.ensures.value in
    let next : c.saturating_add.result ≡ digits_first c.args.word.now + 1 = omega (arith, c.saturating_add.ensures, counted, few) in
    says_character c.format-3.result c.args.name.now (string_bytes c.in_ok-said.said) c.saturating_add.result
    (digits_first c.args.word.now) next c.format-3.ensures.ok
