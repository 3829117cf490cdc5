-- What a Frame Collector hands up, and what a Marker Responder sends (IEEE 802.1AX-2014, 6.2.3 and 6.5.4; profile: what
-- a data frame is).
use Rattle.std.specs.Prelude.{ℕ, ◌≤◌, Bool, cond, List, length, Option, None}
use Rattle.slowpdu.specs.declared.pdu.Marker.{Marker}
use Rattle.slowpdu.specs.Frames.{IsSlowProtocolsFrame}
use Rattle.slowpdu.specs.Markers.{response_to}

-- at least 14 octets, and the EtherType is not that of the slow protocols
abbrev pub IsDataFrame : List ℕ → Type 0
IsDataFrame octets = (14 ≤ length octets) × (IsSlowProtocolsFrame octets → ⊥)

-- the response to a marker, if the link of the port is up
abbrev pub answer_to : Bool → Marker → Option Marker
answer_to enabled marker = cond enabled (response_to marker) None
