use Rattle.lagsystem.proofs.Common.{List, ap, subst, sym, ℕ, ◌∙◌, ◌≡◌, IsStrictlyIncreasing, SystemPort, inner_state, port_numbers}
use Rattle.lagsystem.proofs.Distributing.{numbers_rise}
use Rattle.lagsystem.proofs.calls.System.ports.Goals as goal

pub returns-clause-ascending : goal.returns-clause-ascending
returns-clause-ascending g c = let s = inner_state c.self.inside.inner in
    let same : c.port_numbers.result.items ≡ port_numbers s.system_ports = c.port_numbers.ensures
    ∙ ap (λ (l : List SystemPort). port_numbers l) c.deref.ensures.value in
    subst (λ (l : List ℕ). IsStrictlyIncreasing l) (sym same) (numbers_rise s c.self.invariant.ports)
