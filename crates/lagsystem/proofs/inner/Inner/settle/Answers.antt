use Rattle.lagsystem.proofs.Common.{List, ap, arith, length, refl, subst, sym, ◌∙◌, with_items_is, OnFalse, with_items, ChangesAssignments}
use Rattle.lagsystem.proofs.Common.{SystemPort, after_holding, stopped, inner_state, NextOnlyIfUnselected, SettlesPorts, with_system_ports}
use Rattle.lagsystem.proofs.Stopped.{leaves_made, were_many}
use Rattle.lagsystem.proofs.Keeps.{ports_keep, ports_table, settling_joined}
use Rattle.lagsystem.proofs.StateLemmas.{settled_made}
use Rattle.lagsystem.proofs.TableLemmas.{table_taken}
use Rattle.lagsystem.proofs.inner.Inner.settle.Goals as goal

pub settle_ports-requires-clause-next : goal.settle_ports-requires-clause-next
settle_ports-requires-clause-next g c =
    subst (λ (l : List SystemPort). OnFalse c.args.more_room (NextOnlyIfUnselected c.args.self.now.aggregators l)) (sym c.deref_mut.ensures.value)
    c.requires.next

pub hold_conversations-requires : goal.hold_conversations-requires
hold_conversations-requires g c = let start = inner_state c.args.self.now in
    let v = c.args.self.now.system_ports in
    let ws = c.settle_ports.new.system_ports in
    let news = (with_items v ws).items in
    let mid = with_system_ports start news in
    let settles : SettlesPorts start mid = settled_made start ws news (with_items_is v ws (omega arith))
    (c.settle_ports.ensures start refl (sym c.deref_mut.ensures.value)) in
    were_many c.args.before.now start mid c.requires.were (ports_keep start mid settles).same
    ∙ ap (λ (l : List SystemPort). length l) (sym c.deref.ensures.value)

pub returns-clause-settled : goal.returns-clause-settled
returns-clause-settled g c = let start = inner_state c.args.self.now in
    let v = c.args.self.now.system_ports in
    let ws = c.settle_ports.new.system_ports in
    let news = (with_items v ws).items in
    let mid = with_system_ports start news in
    let settles : SettlesPorts start mid = settled_made start ws news (with_items_is v ws (omega arith))
    (c.settle_ports.ensures start refl (sym c.deref_mut.ensures.value)) in
    let t = c.hold_conversations.new.distributor.table in
    let new = record mid { first_marker = t.first; conversations = t.conversations; table = t } in
    let changes = subst (λ (l : List SystemPort). ChangesAssignments mid.table t (after_holding (stopped c.args.before.now l)))
    c.deref.ensures.value c.hold_conversations.ensures.changed in
    settling_joined start mid new settles
    (leaves_made c.args.before.now start mid new c.requires.were (ports_keep start mid settles).same
    (ports_table start mid settles) changes (table_taken mid t changes.first changes.conversations))
