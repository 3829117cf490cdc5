-- What transmit returns (6.4.16, 6.5.3.3; that an LACPDU goes before a marker: profile).
use Rattle.std.specs.Prelude.{◌≡◌, ℕ, Bool, true, false, List, Option, Some, None, slice_get, slice_set}
use Rattle.slowpdu.specs.declared.pdu.Marker.{Marker}
use Rattle.slowpdu.specs.declared.pdu.MarkerKind.TheVariants.{Information}
use Rattle.slowpdu.specs.Frames.{frame_octets}
use Rattle.slowpdu.specs.Lacpdus.{Writes}
use Rattle.slowpdu.specs.Layout.{IsAddress}
use Rattle.slowpdu.specs.Markers.{WritesMarker}
use Rattle.portmachines.specs.Machines.{Machines}
use Rattle.portmachines.specs.Transmit.{is_due, pdu_of, after_sending}
use Rattle.distributor.specs.Changes.{Marks, marker_due}
use Rattle.lagsystem.specs.declared.system_ports.SystemPort.{SystemPort}
use Rattle.lagsystem.specs.State.{SystemState, with_system_ports, with_table}

-- the Marker PDU of the system with this identifier, for a port
abbrev pub own_marker : SystemState → ℕ → ℕ → Marker
own_marker s port id = record { kind = Information; port = port; system = s.system.mac; id = id }

-- the octets are a control frame from the port's address with its LACPDU
abbrev pub IsLacpduOf : ℕ → SystemPort → List ℕ → Type 0
IsLacpduOf max_delay system_port octets =
    (payload : List ℕ) × IsAddress system_port.mac × Writes payload (pdu_of system_port.port max_delay)
    × (octets ≡ frame_octets system_port.mac payload)

-- the LACPDU of the port at this index is sent, and nothing else changes
abbrev pub SendsLacpdu : ℕ → SystemPort → SystemState → Option (List ℕ) → SystemState → Type 0
SendsLacpdu i system_port old answer new =
    (octets : List ℕ) × IsLacpduOf old.max_delay system_port octets × (answer ≡ Some octets)
    × (new ≡ with_system_ports old (slice_set old.system_ports i (record system_port { port = after_sending system_port.port })))

-- a marker with this identifier is sent on the port, from this MAC address; without an identifier nothing is sent
abbrev pub SendsMarkerOf : Option ℕ → ℕ → List ℕ → SystemState → Option (List ℕ) → SystemState → Type 0
SendsMarkerOf None port mac old answer new = (answer ≡ None) × (new ≡ old)
SendsMarkerOf (Some id) port mac old answer new =
    (payload : List ℕ) × IsAddress mac × WritesMarker payload (own_marker old port id) × (answer ≡ Some (frame_octets mac payload))
    × Marks old.table new.table port id × (new ≡ with_table old new.table)

-- a marker is sent if a conversation is Wanted on the port and an identifier is left
abbrev pub SendsMarker : ℕ → List ℕ → SystemState → Option (List ℕ) → SystemState → Type 0
SendsMarker port mac old answer new = SendsMarkerOf (marker_due old.table port) port mac old answer new

-- promise: `transmit` sends, while the link is up, the LACPDU that is due, else a marker if a conversation is Wanted on the port and an
--    identifier is left: a frame exactly if `is_due`
-- contract: `step` (`TransmitsIf`), `transmit_answers_what_is_due`
-- What transmit does on the port at index i. The first argument: its link is up; the second: an LACPDU is due.
abbrev pub TransmitsIf : Bool → Bool → ℕ → SystemPort → SystemState → Option (List ℕ) → SystemState → Type 0
TransmitsIf false due i system_port old answer new = (answer ≡ None) × (new ≡ old)
TransmitsIf true true i system_port old answer new = SendsLacpdu i system_port old answer new
TransmitsIf true false i system_port old answer new = SendsMarker system_port.number system_port.mac old answer new

-- while the link is up: an LACPDU is sent if one is due, else a marker if one is due, else nothing
abbrev pub PortTransmits : ℕ → SystemPort → SystemState → Option (List ℕ) → SystemState → Type 0
PortTransmits i system_port old answer new = TransmitsIf system_port.port.enabled (is_due system_port.port) i system_port old answer new

-- what transmit does on the port at this index
abbrev pub TransmitsAt : Option ℕ → SystemState → Option (List ℕ) → SystemState → Type 0
TransmitsAt None old answer new = ⊥
TransmitsAt (Some i) old answer new = (system_port : SystemPort) × (slice_get old.system_ports i ≡ Some system_port)
    × PortTransmits i system_port old answer new

-- the port sends the LACPDU that is due, and its machines change so; or none is due, and they stay
abbrev pub SendsLacpduIfDue : ℕ → SystemPort → Option (List ℕ) → Machines → Type 0
SendsLacpduIfDue max_delay system_port None port = (is_due system_port.port ≡ false) × (port ≡ system_port.port)
SendsLacpduIfDue max_delay system_port (Some octets) port = (is_due system_port.port ≡ true) × IsLacpduOf max_delay system_port octets
    × (port ≡ after_sending system_port.port)

-- in the list, the port at this index sends the LACPDU that is due, if one is, and the other ports stay
abbrev pub PortSendsLacpduIfDue : ℕ → ℕ → Option (List ℕ) → List SystemPort → List SystemPort → Type 0
PortSendsLacpduIfDue max_delay i answer olds news =
    (system_port : SystemPort) × (port : Machines) × (slice_get olds i ≡ Some system_port)
    × SendsLacpduIfDue max_delay system_port answer port
    × (news ≡ slice_set olds i (record system_port { port = port }))
