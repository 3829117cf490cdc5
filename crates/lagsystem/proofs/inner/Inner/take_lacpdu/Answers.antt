use Rattle.lagsystem.proofs.Common.{Ok, Some, ap, inr, refl, slice_get, subst, sym, true, ◌∙◌, ◌≡◌, slice_get-get_or, ProcessLacpdu, TookLacpdu, SystemPort}
use Rattle.lagsystem.proofs.Common.{inner_state, port_index}
use Rattle.lagsystem.proofs.ReceivingLemmas.{control_at}
use Rattle.slowpdu.specs.Lacpdus.{Reads}
use Rattle.slowpdu.specs.Pdus.{ReadsPdu}
use Rattle.slowpdu.specs.declared.pdu.Pdu.{Pdu}
use Rattle.slowpdu.specs.declared.pdu.Pdu.TheVariants as pdu
use Rattle.lagsystem.proofs.inner.Inner.take_lacpdu.Goals as goal

pub returns-in_default-decode-2-clause-each : goal.returns-in_default-decode-2-clause-each
returns-in_default-decode-2-clause-each g c v h =
    let only : c.decode.result ≡ Ok (pdu.Lacpdu v) =
    c.decode.ensures.only (pdu.Lacpdu v) (subst (λ b. Reads b v) (sym c.in-Control.ensures.kind.2) h.2) in
    let other = c.in_default-decode.is in cc

pub returns-clause-step : goal.returns-clause-step
returns-clause-step g c = let s = inner_state c.args.self.now in
    let i = c.in-Ok.place in
    let system_port = c.index.result.now in
    let there : slice_get s.system_ports i ≡ Some system_port = slice_get-get_or s.system_ports i system_port c.in-Ok.ensures.within
    ∙ ap (λ (x : SystemPort). Some x) (sym c.index.ensures) in
    let up : system_port.port.enabled ≡ true = sym c.is_enabled.ensures ∙ c.if-not-is_enabled.false in
    let kind = c.in-Control.ensures.kind in
    let v = c.in-Ok-Lacpdu.pdu in
    let reads : Reads c.in-Control.payload.now v =
    subst (λ (x : Pdu). ReadsPdu c.in-Control.payload.now x) c.in-Ok-Lacpdu.field-0-is c.in-Ok-Lacpdu.ensures.found in
    control_at (port_index c.args.number s.system_ports) i c.args.octets.now c.in-Control.payload.now s
    (inner_state c.process_lacpdu.new.self) system_port TookLacpdu c.in-Ok.ensures.place there up kind.0 kind.1 kind.2
    (system_port, ProcessLacpdu v, there, inr (pdu.Lacpdu v, reads, refl), (refl, c.process_lacpdu.ensures.settled))
