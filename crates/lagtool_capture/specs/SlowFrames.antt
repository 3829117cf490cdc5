-- The frames of the slow protocols in a capture.
use Rattle.std.specs.Prelude.{◌==◌, ◌&&◌, ◌||◌, ◌+◌, ◌-◌, ◌*◌, ℕ, Bool, false, not, List, Option, Some, None, Result, Ok, Err, drop, length, nat_lt, slice_get, slice_range, unwrap_or, if◌then◌else◌}
use Rattle.std.specs.List.{list_any}
use Rattle.captures.specs.declared.link.LinkType.{LinkType}
use Rattle.captures.specs.declared.link.LinkType.TheVariants as links
use Rattle.captures.specs.declared.packet.Packet.{Packet}
use Rattle.findings.specs.declared.slow_frame.SlowFrame.{SlowFrame}
use Rattle.findings.specs.declared.slow_frame.What.{What}
use Rattle.findings.specs.declared.slow_frame.What.TheVariants as what
use Rattle.findings.specs.Holds.{and_if}
use Rattle.slowpdu.specs.declared.fault.WireFault.{WireFault}
use Rattle.slowpdu.specs.declared.pdu.Pdu.{Pdu}
use Rattle.slowpdu.specs.declared.pdu.Pdu.TheVariants as pdu
use Rattle.lagtool_capture.specs.declared.header.Header.{Header}
use Rattle.lagtool_capture.specs.Contents.{content_of}
use Rattle.lagtool_capture.specs.Headers.{header_of}

abbrev pub is_set : ℕ → Bool
is_set x = not (x == 0)

-- an octet from one offset up to another is not zero; false if the payload ends before
abbrev pub has_octet : List ℕ → ℕ → ℕ → Bool
has_octet b from to = if nat_lt (length b) to then false else list_any is_set (slice_range b from to)

-- a reserved octet, or one of the padding of a marker, is not zero (6.4.2.3, 6.5.3.3)
abbrev pub has_reserved : List ℕ → What → Bool
has_reserved b (what.Lacpdu v) = has_octet b 19 22 || (has_octet b 39 42 || (has_octet b 46 58 || has_octet b 60 110))
has_reserved b (what.Marker m) = has_octet b 16 18 || has_octet b 20 110
has_reserved b (what.Refused e) = false

-- there is an octet at this offset, and it is this one
abbrev pub is_octet : List ℕ → ℕ → ℕ → Bool
is_octet b at octet = and_if (λ found. found == octet) (slice_get b at)

-- a TLV type, or the type or length of the Terminator, is another one: Actor 1, Partner 2, Collector 3, Terminator 0 (6.4.2.3, 6.5.3.3)
abbrev pub has_other_types : List ℕ → What → Bool
has_other_types b (what.Lacpdu v) =
    not (is_octet b 2 1 && (is_octet b 22 2 && (is_octet b 42 3 && (is_octet b 58 0 && is_octet b 59 0))))
has_other_types b (what.Marker m) = not (is_octet b 18 0 && is_octet b 19 0)
has_other_types b (what.Refused e) = false

-- octet 1, the version
abbrev pub version_in : List ℕ → ℕ
version_in b = unwrap_or (slice_get b 1) 0

-- what a payload with this content holds
abbrev pub what_of : Result Pdu WireFault → What
what_of (Ok (pdu.Lacpdu v)) = what.Lacpdu v
what_of (Ok (pdu.Marker m)) = what.Marker m
what_of (Err e) = what.Refused e

abbrev pub what_in : List ℕ → What
what_in b = what_of (content_of b)

-- how many octets a captured header has more than the addresses and the EtherType of an Ethernet frame
abbrev pub header_excess : LinkType → ℕ
header_excess links.Ethernet = 0
header_excess links.Cooked = 2
header_excess links.Cooked2 = 6

-- how many octets a packet's frame has from its destination address on, without so many tags
abbrev pub frame_length : Packet → ℕ → ℕ
frame_length packet tags = packet.original - (header_excess packet.link + 4 * tags)

-- the frame of the slow protocols with this number, header and payload; 0 stands for no time
abbrev pub slow_frame : ℕ → Packet → Header → List ℕ → SlowFrame
slow_frame number packet e b = record {
  number = number;
  interface = e.interface;
  nanoseconds = unwrap_or packet.time 0;
  source = e.source;
  destination = e.destination;
  tags = e.tags;
  length = frame_length packet e.tags;
  version = version_in b;
  reserved = has_reserved b (what_in b);
  other_types = has_other_types b (what_in b);
  what = what_in b;
}

-- the frame in a packet with this header, if it is one of the slow protocols
abbrev pub frame_behind : ℕ → Option Header → Packet → List ℕ → Option SlowFrame
frame_behind number None packet b = None
frame_behind number (Some e) packet b = if e.ether_type == 0x8809 then Some (slow_frame number packet e (drop e.start b)) else None

-- the frame of the slow protocols in a packet with these captured octets
abbrev pub frame_in : ℕ → Packet → List ℕ → Option SlowFrame
frame_in number packet b = frame_behind number (header_of packet b) packet b
