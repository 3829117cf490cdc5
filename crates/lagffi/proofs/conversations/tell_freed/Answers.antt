use Rattle.lagffi.proofs.Common.{refl, rules}
use Rattle.lagffi.proofs.TableLemmas.{rows_refused, rows_told}
use Rattle.lagffi.proofs.conversations.tell_freed.Goals as goal

pub returns-then-lack_rows : goal.returns-then-lack_rows
returns-then-lack_rows g c = rows_refused _ _ _ _ (search rules) c.refused.ensures (refl, refl)

pub returns : goal.returns
returns g c = rows_told _ _ c.released.result _ _ _ c.of.ensures (search rules) c.released.ensures.tells c.released.ensures.there
    c.released.ensures.none c.released.ensures.named c.released.ensures.busy c.released.ensures.freed
