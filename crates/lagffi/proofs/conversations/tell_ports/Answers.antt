use Rattle.lagffi.proofs.Common.{refl, rules}
use Rattle.lagffi.proofs.TableLemmas.{rows_refused, rows_told}
use Rattle.lagffi.proofs.conversations.tell_ports.Goals as goal

pub returns-then-lack_rows : goal.returns-then-lack_rows
returns-then-lack_rows g c = rows_refused _ _ _ _ (search rules) c.refused.ensures (refl, refl)

pub returns : goal.returns
returns g c = rows_told _ _ c.conversation_ports.result _ _ _ c.of.ensures (search rules) c.conversation_ports.ensures.tells c.conversation_ports.ensures.there
    c.conversation_ports.ensures.none c.conversation_ports.ensures.named c.conversation_ports.ensures.ports c.conversation_ports.ensures.changed
