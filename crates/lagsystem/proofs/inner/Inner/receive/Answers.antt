use Rattle.lagsystem.proofs.Common.{Some, ap, refl, slice_get, sym, true, ◌∙◌, ◌≡◌, slice_get-get_or, Answered, Disabled, Dropped, SystemPort}
use Rattle.lagsystem.proofs.Common.{Data_frame, Runt, up_or_dropped, inner_state, port_index}
use Rattle.lagsystem.proofs.ReceivingLemmas.{answered_at, collected, control_at, parses_none, parses_one}
use Rattle.lagsystem.proofs.inner.Inner.receive.Goals as goal

pub returns-then-not-is_enabled-clause-step : goal.returns-then-not-is_enabled-clause-step
returns-then-not-is_enabled-clause-step g c = let s = inner_state c.args.self.now in
    let i = c.in_ok-place.place in
    let system_port = c.index.result.now in
    let there : slice_get s.system_ports i ≡ Some system_port = slice_get-get_or s.system_ports i system_port c.in_ok-place.ensures.within
    ∙ ap (λ (x : SystemPort). Some x) (sym c.index.ensures) in
    answered_at (port_index c.args.number s.system_ports) i c.args.octets.now s system_port Disabled c.in_ok-place.ensures.place there
    (parses_none system_port c.args.octets.now (sym c.is_enabled.ensures ∙ c.if-not-is_enabled.true))

pub returns-in-TooShort-clause-step : goal.returns-in-TooShort-clause-step
returns-in-TooShort-clause-step g c = let s = inner_state c.args.self.now in
    let i = c.in_ok-place.place in
    let system_port = c.index.result.now in
    let there : slice_get s.system_ports i ≡ Some system_port = slice_get-get_or s.system_ports i system_port c.in_ok-place.ensures.within
    ∙ ap (λ (x : SystemPort). Some x) (sym c.index.ensures) in
    let up : system_port.port.enabled ≡ true = sym c.is_enabled.ensures ∙ c.if-not-is_enabled.false in
    answered_at (port_index c.args.number s.system_ports) i c.args.octets.now s system_port Dropped c.in_ok-place.ensures.place there
    (parses_one system_port c.args.octets.now Runt (Answered Dropped) up c.in-TooShort.ensures.kind refl)

pub returns-in-Data-clause-step : goal.returns-in-Data-clause-step
returns-in-Data-clause-step g c = let s = inner_state c.args.self.now in
    let i = c.in_ok-place.place in
    let system_port = c.index.result.now in
    let there : slice_get s.system_ports i ≡ Some system_port = slice_get-get_or s.system_ports i system_port c.in_ok-place.ensures.within
    ∙ ap (λ (x : SystemPort). Some x) (sym c.index.ensures) in
    let up : system_port.port.enabled ≡ true = sym c.is_enabled.ensures ∙ c.if-not-is_enabled.false in
    let reply = c.from.result in
    let gives = c.from.ensures
    ∙ collected c.collecting.result c.args.octets.now c.collect.result c.in-Data.ensures.kind c.collect.ensures.up
    c.collect.ensures.not_collecting ∙ ap up_or_dropped c.collecting.ensures in
    answered_at (port_index c.args.number s.system_ports) i c.args.octets.now s system_port reply c.in_ok-place.ensures.place there
    (parses_one system_port c.args.octets.now Data_frame (Answered reply) up c.in-Data.ensures.kind (ap Answered gives))

pub returns-in-Control-clause-step : goal.returns-in-Control-clause-step
returns-in-Control-clause-step g c = let s = inner_state c.args.self.now in
    let i = c.in_ok-place.place in
    let system_port = c.index.result.now in
    let there : slice_get s.system_ports i ≡ Some system_port = slice_get-get_or s.system_ports i system_port c.in_ok-place.ensures.within
    ∙ ap (λ (x : SystemPort). Some x) (sym c.index.ensures) in
    let up : system_port.port.enabled ≡ true = sym c.is_enabled.ensures ∙ c.if-not-is_enabled.false in
    let kind = c.in-Control.ensures.kind in
    control_at (port_index c.args.number s.system_ports) i c.args.octets.now c.in-Control.payload.now s
    (inner_state c.receive_control.new.self) system_port c.receive_control.result c.in_ok-place.ensures.place there up kind.0 kind.1 kind.2
    c.receive_control.ensures.received
