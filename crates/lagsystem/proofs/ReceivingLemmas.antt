-- What a system makes of a received frame.
use native.Mathlib.Omega.{arith}
use Rattle.lagsystem.proofs.Common.{List, None, Option, Some, drop, false, length, refl, slice_get, subst, sym, true, ℕ, ◌∙◌, ◌≡◌, ◌≤◌, same_Some}
use Rattle.lagsystem.proofs.Common.{AggId, IsSlowProtocolsFrame, FrameEffect, Answered, Received, Disabled, SystemPort, GivesEffect, IsFrame}
use Rattle.lagsystem.proofs.Common.{ParsesFrame, ParsesWhere, Performs, ReceivedFrame, ReceivesAt, received_of, up_or_dropped, SystemState}
use Rattle.lagsystem.proofs.Common.{system_port_at}
use Rattle.collector.specs.Collecting.{IsDataFrame}
use Rattle.collector.specs.declared.Taken.{Taken}
use Rattle.collector.specs.declared.Taken.TheVariants as taken
use Rattle.lagsystem.specs.Receiving.{ReceivesControl}
use Rattle.lagsystem.proofs.StateLemmas.{hears_control}

-- on a port whose link is down
pub parses_none : (system_port : SystemPort) (octets : List ℕ) → system_port.port.enabled ≡ false → ParsesFrame system_port octets (Answered Disabled)
parses_none system_port octets e = subst (λ b. ParsesWhere b system_port octets (Answered Disabled)) (sym e) refl

-- on a port whose link is up
pub parses_one : (system_port : SystemPort) (octets : List ℕ) (frame : ReceivedFrame) (effect : FrameEffect) → system_port.port.enabled ≡ true
    → IsFrame octets frame → GivesEffect system_port frame effect → ParsesFrame system_port octets effect
parses_one system_port octets frame effect e is gives = grind arith

-- what the collector does with a data frame
pub collected : (collecting : Option AggId) (octets : List ℕ) (t : Taken) → IsDataFrame octets
    → ((agg : AggId) → collecting ≡ Some agg → IsDataFrame octets → t ≡ taken.Up agg) → (collecting ≡ None → t ≡ taken.Dropped)
    → received_of t ≡ up_or_dropped collecting
collected collecting octets t framed up none = grind arith

-- a frame that changes nothing
pub answered_at : (index : Option ℕ) (i : ℕ) (octets : List ℕ) (s : SystemState) (system_port : SystemPort) (reply : Received) → index ≡ Some i
    → slice_get s.system_ports i ≡ Some system_port → ParsesFrame system_port octets (Answered reply) → ReceivesAt index octets s reply s
answered_at index i octets s system_port reply e at parses = grind arith

-- a control frame
pub control_at : (index : Option ℕ) (i : ℕ) (octets payload : List ℕ) (old new : SystemState) (system_port : SystemPort) (reply : Received) → index ≡ Some i
    → slice_get old.system_ports i ≡ Some system_port → system_port.port.enabled ≡ true → 14 ≤ length octets → IsSlowProtocolsFrame octets
    → payload ≡ drop 14 octets → ReceivesControl i payload old reply new → ReceivesAt index octets old reply new
control_at index i octets payload old new system_port reply e at up long slow rest h =
    let same : system_port ≡ h.0 = same_Some system_port h.0 (sym at ∙ h.2) in
    let on : h.0.port.enabled ≡ true = subst (λ (x : SystemPort). x.port.enabled ≡ true) same up in (
      h.0,
      h.1,
      subst (λ o. system_port_at o old.system_ports ≡ Some h.0) (sym e) h.2,
      hears_control h.0 octets payload h.1 on long slow rest h.3,
      subst (λ o. Performs h.1 h.0.number o old reply new) (sym e) h.4,
    )
