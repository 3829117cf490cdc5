use Rattle.lagsystem.proofs.Common.{Some, ap, refl, slice_get, subst, sym, ◌∙◌, ◌≡◌, same_Some, slice_get-get_or, Answered, ProcessLacpdu, Response}
use Rattle.lagsystem.proofs.Common.{Released, SystemPort, ParsesPayload, Releases, is_own_response, inner_state}
use Rattle.lagsystem.proofs.inner.Inner.receive_control.Goals as goal

pub returns-in-ProcessLacpdu-clause-received : goal.returns-in-ProcessLacpdu-clause-received
returns-in-ProcessLacpdu-clause-received g c = let v = c.args.self.now.system_ports in
    let system_port = c.index-2.result.now in (
      system_port,
      ProcessLacpdu c.in-ProcessLacpdu.pdu,
      slice_get-get_or v.items c.args.place system_port c.requires.within ∙ ap (λ (x : SystemPort). Some x) (sym c.index-2.ensures),
      subst (λ h. ParsesPayload system_port c.args.payload.now h) c.in-ProcessLacpdu.is c.parse_payload.ensures,
      (refl, c.process_lacpdu.ensures.settled),
    )

pub returns-in-Response-clause-received : goal.returns-in-Response-clause-received
returns-in-Response-clause-received g c = let items = c.args.self.now.system_ports.items in
    let one = c.index.result.now in
    let system_port = c.index-2.result.now in
    let m = c.in-Response.marker in
    let here : slice_get items c.args.place ≡ Some one = slice_get-get_or items c.args.place one c.requires.within
    ∙ ap (λ (x : SystemPort). Some x) (sym c.index.ensures) in
    let there : slice_get items c.args.place ≡ Some system_port = slice_get-get_or items c.args.place system_port c.requires.within
    ∙ ap (λ (x : SystemPort). Some x) (sym c.index-2.ensures) in
    let same : one ≡ system_port = same_Some one system_port (sym here ∙ there) in (
      system_port,
      Response m,
      there,
      subst (λ h. ParsesPayload system_port c.args.payload.now h) c.in-Response.is c.parse_payload.ensures,
      subst (λ (x : SystemPort). Releases (is_own_response (inner_state c.args.self.now) x.number m) x.number m
          (inner_state c.args.self.now) (Released c.release.result) (inner_state c.release.new.self)) same c.release.ensures.released,
    )

pub returns-in-Answered-clause-received : goal.returns-in-Answered-clause-received
returns-in-Answered-clause-received g c = let system_port = c.index-2.result.now in (
  system_port,
  Answered c.in-Answered.reply,
  slice_get-get_or c.args.self.now.system_ports.items c.args.place system_port c.requires.within
      ∙ ap (λ (x : SystemPort). Some x) (sym c.index-2.ensures),
  subst (λ h. ParsesPayload system_port c.args.payload.now h) c.in-Answered.is c.parse_payload.ensures,
  (refl, refl),
)
