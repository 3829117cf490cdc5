use Rattle.lagsystem.proofs.Common.{arith, refl, sym, with_items_is, with_items, inner_state}
use Rattle.lagsystem.proofs.StateLemmas.{settled_made}
use Rattle.lagsystem.proofs.inner.Inner.settle_ports.Goals as goal

pub returns-clause-settled : goal.returns-clause-settled
returns-clause-settled g c = let v = c.args.self.now.system_ports in
    let s = inner_state c.args.self.now in
    let ws = c.settle_ports.new.system_ports in
    settled_made s ws (with_items v ws).items (with_items_is v ws (omega arith))
    (c.settle_ports.ensures s refl (sym c.deref_mut.ensures.value))
