use Rattle.lagsystem.proofs.Common.{List, subst, sym, IsStrictlyIncreasing, SystemPort, inner_state, port_numbers}
use Rattle.lagsystem.proofs.Distributing.{numbers_rise}
use Rattle.lagsystem.proofs.inner.Inner.port_index.Goals as goal

pub port_index-requires : goal.port_index-requires
port_index-requires g c = subst (λ (l : List SystemPort). IsStrictlyIncreasing (port_numbers l)) (sym c.deref.ensures.value)
    (numbers_rise (inner_state c.args.self.now) c.requires.ports)
