-- Responses to markers, by the end that sends them (6.5.4). A response names no port of its sender, so it is of an end by
-- interface and source address; an end responds from its first LACPDU on.
use Rattle.std.specs.Prelude.{◌==◌, ◌&&◌, ◌||◌, ℕ, Bool, false, not, is_some, List, [], ◌∷◌, Option, Some, None, if◌then◌else◌}
use Rattle.std.specs.Option.{option_or}
use Rattle.std.specs.Str.{bytes_eq}
use Rattle.slowpdu.specs.declared.pdu.Marker.{Marker}
use Rattle.findings.specs.declared.asking.Asked.{Asked}
use Rattle.findings.specs.declared.responding.Responding.{Responding}
use Rattle.findings.specs.declared.waiting.Waiting.{Waiting}
use Rattle.findings.specs.declared.finding.Shown.{Shown}
use Rattle.findings.specs.declared.slow_frame.LinkEnd.{LinkEnd}
use Rattle.findings.specs.declared.slow_frame.SlowFrame.{SlowFrame}
use Rattle.findings.specs.Ends.{end_of, said, same_end}
use Rattle.findings.specs.Holds.{and_if, is_over, seconds}
use Rattle.findings.specs.Markers.{asked_in, is_response_to, marker_in, response_in}

-- the marker that a frame asks an end with: one on its interface from another source address
abbrev pub asks : LinkEnd → SlowFrame → Option Asked
asks e o = if (o.interface == e.interface) && not (bytes_eq o.source e.source) then asked_in o (marker_in o.what) else None

-- the response of an end in a frame: one on its interface from its source address
abbrev pub responds : LinkEnd → SlowFrame → Option Marker
responds e o = if (o.interface == e.interface) && bytes_eq o.source e.source then response_in o.what else None

-- the end has sent an LACPDU before this frame, and this is none of its LACPDUs and markers
abbrev pub comes_later : LinkEnd → SlowFrame → List SlowFrame → Bool
comes_later e o h = not (same_end (end_of o) e) && is_some (said e h)

-- the latest marker that an end is asked with
abbrev pub request : LinkEnd → List SlowFrame → Option Asked
request e [] = None
request e (o ∷ h) = option_or (if comes_later e o h then asks e o else None) (request e h)

-- a place behind a marker, which takes it if it is free
abbrev pub placed : Option Asked → Option Asked → Option Asked
placed None m = m
placed (Some q) m = Some q

-- the marker, if the place was taken
abbrev pub unplaced : Option Asked → Option Asked → Option Asked
unplaced None m = None
unplaced (Some q) m = m

-- a place behind a response: free, if the response is to the marker in it
abbrev pub freed : Option Asked → Option Marker → Option Asked
freed None r = None
freed (Some q) None = Some q
freed (Some q) (Some r) = if is_response_to q.marker r then None else Some q

-- the response, unless it is to the marker in a place
abbrev pub unpaired : Option Asked → Option Marker → Option Marker
unpaired None r = r
unpaired (Some q) None = None
unpaired (Some q) (Some r) = if is_response_to q.marker r then None else Some r

-- no marker waits
abbrev pub none_wait : Waiting
none_wait = record {
  first = None;
  second = None;
  third = None;
  fourth = None;
  fifth = None;
  sixth = None;
  seventh = None;
  eighth = None;
  beyond = false;
}

-- the places in turn: what is kept in each one, and what is left for those behind it; and, by what none of them took, whether
-- nothing is known of a marker
abbrev pub in_turn : {A : Type 0} → (Option Asked → Option A → Option Asked) → (Option Asked → Option A → Option A) → (Bool → Option A → Bool)
    → Option A → Waiting → Waiting
in_turn kept left beyond a w =
    let a2 = left w.first a in
    let a3 = left w.second a2 in
    let a4 = left w.third a3 in
    let a5 = left w.fourth a4 in
    let a6 = left w.fifth a5 in
    let a7 = left w.sixth a6 in
    let a8 = left w.seventh a7 in
    record {
      first = kept w.first a;
      second = kept w.second a2;
      third = kept w.third a3;
      fourth = kept w.fourth a4;
      fifth = kept w.fifth a5;
      sixth = kept w.sixth a6;
      seventh = kept w.seventh a7;
      eighth = kept w.eighth a8;
      beyond = beyond w.beyond (left w.eighth a8);
    }

-- one more marker waits: it takes the first free place
abbrev pub with_marker : Option Asked → Waiting → Waiting
with_marker m w = in_turn placed unplaced (λ beyond left. beyond || is_some left) m w

-- a response frees the first place whose marker it is to
abbrev pub with_response : Option Marker → Waiting → Waiting
with_response r w = in_turn freed unpaired (λ beyond left. beyond) r w

-- the response, unless it is to a marker that waits
abbrev pub unasked_by : Waiting → Option Marker → Option Marker
unasked_by w r =
    unpaired w.eighth (unpaired w.seventh (unpaired w.sixth (unpaired w.fifth (unpaired w.fourth (unpaired w.third (unpaired w.second (unpaired w.first r)))))))

-- the markers that an end is asked with and has not responded to
abbrev pub waiting : LinkEnd → List SlowFrame → Waiting
waiting e [] = none_wait
waiting e (o ∷ h) = if comes_later e o h then with_response (responds e o) (with_marker (asks e o) (waiting e h)) else waiting e h

-- A response that nobody asked for (6.5.4): no marker that waits has its port, system and transaction. Of a marker that found no
-- place nothing is known.
abbrev pub is_unasked : Waiting → Marker → Bool
is_unasked w r = not w.beyond && is_some (unasked_by w (Some r))

-- A response late (6.5.4): to the latest marker, for longer than 3 seconds behind it.
abbrev pub is_overdue : ℕ → Option Asked → Marker → Bool
is_overdue time m r = and_if (λ q. is_response_to q.marker r && is_over (seconds 3) q.nanoseconds time) m

-- a frame, if there is a response in it with a property
abbrev pub if_response_is : (Marker → Bool) → SlowFrame → Option Marker → Option Shown
if_response_is holds o None = None
if_response_is holds o (Some r) =
    if holds r then Some (record { number = o.number; nanoseconds = o.nanoseconds; partner = None }) else None

-- the first response of an end with a property, by the markers that wait, the latest marker and the time
abbrev pub first_response : (Waiting → Option Asked → ℕ → Marker → Bool) → LinkEnd → List SlowFrame → Option Shown
first_response holds e [] = None
first_response holds e (o ∷ h) =
    option_or (first_response holds e h)
    (if comes_later e o h then if_response_is (holds (waiting e h) (request e h) o.nanoseconds) o (responds e o) else None)

-- the first response of an end that nobody asked for
abbrev pub first_unasked : LinkEnd → List SlowFrame → Option Shown
first_unasked = first_response (λ w m time. is_unasked w)

-- the first response of an end that comes late
abbrev pub first_late : LinkEnd → List SlowFrame → Option Shown
first_late = first_response (λ w m time. is_overdue time m)

-- what is kept of an end's responses
abbrev pub responding : LinkEnd → List SlowFrame → Responding
responding e h = record { request = request e h; waiting = waiting e h; unasked = first_unasked e h; late = first_late e h }
