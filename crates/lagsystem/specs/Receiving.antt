-- What receive does with a control frame.
use Rattle.std.specs.Prelude.{◌≡◌, ℕ, true, List, Some, drop, slice_get}
use Rattle.slowpdu.specs.Lacpdus.{Reads}
use Rattle.slowpdu.specs.declared.pdu.Lacpdu.{Lacpdu}
use Rattle.lagsystem.specs.Calls.{HoldsAtIndex, IsControlFrame, ParsesPayload, Performs}
use Rattle.lagsystem.specs.State.{SystemState, port_index}
use Rattle.lagsystem.specs.declared.received.FrameEffect.{FrameEffect}
use Rattle.lagsystem.specs.declared.received.Received.{Received}
use Rattle.lagsystem.specs.declared.system_ports.SystemPort.{SystemPort}

-- receive, of a control frame with this payload, on the port at this index, whose link is up
abbrev pub ReceivesControl : ℕ → List ℕ → SystemState → Received → SystemState → Type 0
ReceivesControl i payload old reply new =
    (system_port : SystemPort) × (effect : FrameEffect) × (slice_get old.system_ports i ≡ Some system_port)
    × ParsesPayload system_port payload effect
    × Performs effect system_port.number (Some i) old reply new

-- the link of the port with this number is up, and the octets are a control frame whose payload reads as this LACPDU
abbrev pub BringsLacpdu : ℕ → List ℕ → Lacpdu → SystemState → Type 0
BringsLacpdu n octets v s = HoldsAtIndex (λ p. p.enabled ≡ true) (port_index n s.system_ports) s.system_ports
    × IsControlFrame octets × Reads (drop 14 octets) v
