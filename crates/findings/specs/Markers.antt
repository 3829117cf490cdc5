-- Markers and their responses (6.5.4).
use Rattle.std.specs.Prelude.{◌==◌, ◌&&◌, ℕ, Bool, List, [], ◌∷◌, Option, Some, None, if◌then◌else◌}
use Rattle.std.specs.Option.{option_or}
use Rattle.std.specs.Str.{bytes_eq}
use Rattle.slowpdu.specs.declared.pdu.Marker.{Marker}
use Rattle.slowpdu.specs.declared.pdu.MarkerKind.{MarkerKind}
use Rattle.slowpdu.specs.declared.pdu.MarkerKind.TheVariants as kinds
use Rattle.findings.specs.declared.asking.Asked.{Asked}
use Rattle.findings.specs.declared.asking.Asking.{Asking}
use Rattle.findings.specs.declared.finding.Shown.{Shown}
use Rattle.findings.specs.declared.slow_frame.LinkEnd.{LinkEnd}
use Rattle.findings.specs.declared.slow_frame.SlowFrame.{SlowFrame}
use Rattle.findings.specs.declared.slow_frame.What.{What}
use Rattle.findings.specs.declared.slow_frame.What.TheVariants as variants
use Rattle.findings.specs.Ends.{end_of, same_end}
use Rattle.findings.specs.Holds.{is_over, seconds}

-- a Marker PDU, if it asks for a response
abbrev pub if_marker : MarkerKind → Marker → Option Marker
if_marker kinds.Information m = Some m
if_marker kinds.Response m = None

-- a Marker PDU, if it is a response
abbrev pub if_response : MarkerKind → Marker → Option Marker
if_response kinds.Information m = None
if_response kinds.Response m = Some m

-- the marker in a payload
abbrev pub marker_in : What → Option Marker
marker_in (variants.Lacpdu v) = None
marker_in (variants.Marker m) = if_marker m.kind m
marker_in (variants.Refused e) = None

-- the response in a payload
abbrev pub response_in : What → Option Marker
response_in (variants.Lacpdu v) = None
response_in (variants.Marker m) = if_response m.kind m
response_in (variants.Refused e) = None

-- a frame, if a marker is in it
abbrev pub asked_in : SlowFrame → Option Marker → Option Asked
asked_in o None = None
asked_in o (Some m) = Some (record { number = o.number; nanoseconds = o.nanoseconds; marker = m })

-- a response has the marker's port, system and transaction
abbrev pub is_response_to : Marker → Marker → Bool
is_response_to m r = (r.port == m.port) && (bytes_eq r.system m.system && (r.id == m.id))

-- the marker, unless a frame on its interface is the response to it
abbrev pub unless_answered : LinkEnd → SlowFrame → Option Marker → Option Asked → Option Asked
unless_answered e o None asked = asked
unless_answered e o (Some r) None = None
unless_answered e o (Some r) (Some m) = if (o.interface == e.interface) && is_response_to m.marker r then None else Some m

-- the latest marker of an end, if no other end has responded to it
abbrev pub open_marker : LinkEnd → List SlowFrame → Option Asked
open_marker e [] = None
open_marker e (o ∷ h) =
    if same_end (end_of o) e then option_or (asked_in o (marker_in o.what)) (open_marker e h)
    else unless_answered e o (response_in o.what) (open_marker e h)

-- a marker, if it has waited for longer than 3 seconds at this time
abbrev pub overdue : ℕ → Option Asked → Option Shown
overdue time None = None
overdue time (Some m) =
    if is_over (seconds 3) m.nanoseconds time then Some (record { number = m.number; nanoseconds = m.nanoseconds; partner = None }) else None

-- the first marker of an end that had waited for longer than 3 seconds when a frame came
abbrev pub first_overdue : LinkEnd → List SlowFrame → Option Shown
first_overdue e [] = None
first_overdue e (o ∷ h) = option_or (first_overdue e h) (overdue o.nanoseconds (open_marker e h))

-- the first marker of an end without a response within 3 seconds, in a capture that goes up to this time
abbrev pub first_unanswered : ℕ → LinkEnd → List SlowFrame → Option Shown
first_unanswered until e h = option_or (first_overdue e h) (overdue until (open_marker e h))

-- what is kept of an end's markers
abbrev pub asking : LinkEnd → List SlowFrame → Asking
asking e h = record { waiting = open_marker e h; overdue = first_overdue e h }
