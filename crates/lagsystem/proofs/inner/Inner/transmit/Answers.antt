use Rattle.lagsystem.proofs.Common.{None, Some, ap, refl, slice_get, slice_set, sym, true, ◌∙◌, ◌≡◌, get_or-set_same, slice_get-get_or, SystemPort}
use Rattle.lagsystem.proofs.Common.{inner_state, PortSendsLacpduIfDue, port_index}
use Rattle.lagsystem.proofs.SendingLemmas.{lacpdu_sent, none_sent, sends_lacpdu, sends_marker}
use Rattle.lagsystem.proofs.inner.Inner.transmit.Goals as goal

pub returns-in-Some-clause-step : goal.returns-in-Some-clause-step
returns-in-Some-clause-step g c = let s = inner_state c.args.self.now in
    let olds = c.args.self.now.system_ports.items in
    let i = c.in_ok-place.place in
    let first = c.index.result.now in
    let system_port = c.index_mut-system_port.result.now in
    let last : SystemPort = record system_port { port = c.transmit.new.self } in
    let news = slice_set olds i last in
    let within = c.in_ok-place.ensures.within in
    let there : slice_get olds i ≡ Some first = slice_get-get_or olds i first within
    ∙ ap (λ (x : SystemPort). Some x) (sym c.index.ensures) in
    let changed : slice_get olds i ≡ Some system_port = slice_get-get_or olds i system_port within
    ∙ ap (λ (x : SystemPort). Some x) (sym c.index_mut-system_port.ensures.value) in
    let up : first.port.enabled ≡ true = sym c.is_enabled.ensures ∙ c.if-not-is_enabled.false in
    let sent : PortSendsLacpduIfDue s.max_delay i (Some c.control_frame.result) olds news = (
      system_port,
      c.transmit.new.self,
      changed,
      lacpdu_sent s.max_delay system_port c.transmit.result c.in-Some.pdu c.encode.result c.control_frame.result c.transmit.new.self
          c.transmit.ensures.pdu c.transmit.ensures.state c.in-Some.is c.control_frame.ensures.address c.encode.ensures
          c.control_frame.ensures.octets,
      refl,
    ) in
    sends_lacpdu s (port_index c.args.number olds) i first c.control_frame.result olds news news c.in_ok-place.ensures.place there up refl refl
    sent

pub returns-clause-step : goal.returns-clause-step
returns-clause-step g c = let s = inner_state c.args.self.now in
    let olds = c.args.self.now.system_ports.items in
    let i = c.in_ok-place.place in
    let first = c.index.result.now in
    let system_port = c.index_mut-system_port.result.now in
    let last : SystemPort = record system_port { port = c.transmit.new.self } in
    let news = slice_set olds i last in
    let within = c.in_ok-place.ensures.within in
    let there : slice_get olds i ≡ Some first = slice_get-get_or olds i first within
    ∙ ap (λ (x : SystemPort). Some x) (sym c.index.ensures) in
    let changed : slice_get olds i ≡ Some system_port = slice_get-get_or olds i system_port within
    ∙ ap (λ (x : SystemPort). Some x) (sym c.index_mut-system_port.ensures.value) in
    let up : first.port.enabled ≡ true = sym c.is_enabled.ensures ∙ c.if-not-is_enabled.false in
    let none : PortSendsLacpduIfDue s.max_delay i None olds news = (
      system_port,
      c.transmit.new.self,
      changed,
      none_sent s.max_delay system_port c.transmit.result c.transmit.new.self c.transmit.ensures.pdu c.transmit.ensures.state c.in_default.is,
      refl,
    ) in
    sends_marker s c.args.number i first last olds news news c.transmit_marker.result (inner_state c.transmit_marker.new.self)
    c.in_ok-place.ensures.place within there up refl refl none (sym (get_or-set_same olds i last last within)) c.transmit_marker.ensures.sends
