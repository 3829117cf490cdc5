use Rattle.lagscript.proofs.Common.{arith, sym}
use Rattle.lagscript.proofs.DocumentLemmas.{not_two}
use Rattle.lagscript.proofs.values.two_numbers.Goals as goal

pub returns-in_default : goal.returns-in_default
returns-in_default c = let lt = c.in_default.len_below in sym (not_two c.args.values.now (λ e. omega arith))

pub returns-in_default-2 : goal.returns-in_default-2
returns-in_default-2 c = let ge = c.in_default.len_at_least in sym (not_two c.args.values.now (λ e. omega arith))
