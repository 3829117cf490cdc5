use Rattle.lagscript.proofs.Common.{Bool, List, None, Some, ap, arith, false, if◌then◌else◌, length, nat_le, option_and_then, refl, true, ℕ, ◌<◌, ◌^◌}
use Rattle.lagscript.proofs.Common.{◌∙◌, ◌≡◌, ◌≤◌, up_to_most}
use Rattle.std.proofs.lemmas.Bool.Decides.{nat_tests}
use Rattle.lagscript.proofs.laws.scripts_have_a_limit_of_entries.Goals as goal

few : (b : Bool) (n most : ℕ) (texts : List (List ℕ)) → nat_le n most ≡ b → n ≤ most → (if b then Some texts else None) ≡ Some texts
few true n most texts e h = refl
few false n most texts e h = absurd (let d = e in let k = h in grind (arith, nat_tests))

many : (b : Bool) (n most : ℕ) (texts : List (List ℕ)) → nat_le n most ≡ b → most < n → (if b then Some texts else None) ≡ None
many false n most texts e h = refl
many true n most texts e h = absurd (let d = e in let k = h in grind (arith, nat_tests))

pub returns-clause-taken : goal.returns-clause-taken
returns-clause-taken c = λ d texts e h. ap (option_and_then up_to_most) e ∙ few (nat_le (length texts) (10 ^ 5)) (length texts) (10 ^ 5) texts refl h

pub returns-clause-refused : goal.returns-clause-refused
returns-clause-refused c = λ d texts e h. ap (option_and_then up_to_most) e
    ∙ many (nat_le (length texts) (10 ^ 5)) (length texts) (10 ^ 5) texts refl h
