use Rattle.lagsystem.proofs.Common.{Some, slice_get, subst, sym, true, ◌∙◌, ◌≡◌, slice_get-get_or, SystemPort, inner_state}
use Rattle.lagsystem.proofs.ProbingLemmas.{probes_marker}
use Rattle.lagsystem.proofs.inner.Inner.probe.Goals as goal

pub returns-clause-probes : goal.returns-clause-probes
returns-clause-probes g c = let items = c.args.self.now.system_ports.items in
    let i = c.in_ok-place.place in
    let system_port = c.index.result.now in
    let second = c.index-2.result.now in
    let within = c.in_ok-place.ensures.within in
    let there : slice_get items i ≡ Some system_port = subst (λ (x : SystemPort). slice_get items i ≡ Some x) (sym c.index.ensures)
    (slice_get-get_or items i system_port within) in
    let too : slice_get items i ≡ Some second = subst (λ (x : SystemPort). slice_get items i ≡ Some x) (sym c.index-2.ensures)
    (slice_get-get_or items i second within) in
    let up : system_port.port.enabled ≡ true = sym c.is_enabled.ensures ∙ c.if-not-is_enabled.false in
    probes_marker (inner_state c.args.self.now) c.args.number i system_port second c.probe_marker.result
    (inner_state c.probe_marker.new.self) c.in_ok-place.ensures.place there too up c.probe_marker.ensures.sends
