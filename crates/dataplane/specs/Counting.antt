-- The counters of a port: 7.3.3, aAggPortStats.. of the Aggregation Port statistics.
use Rattle.std.specs.Prelude.{ℕ, Bool, ◌==◌, ◌&&◌, nat_le, List, length, slice_index, take, if◌then◌else◌}
use Rattle.std.specs.Str.{bytes_eq}
use Rattle.slowpdu.specs.Frames.{slow_group}
use Rattle.lagsystem.specs.declared.received.Received.{Received}
use Rattle.lagsystem.specs.declared.received.Received.TheVariants.{Disabled, Dropped, Ignored, TookLacpdu, Respond, Released, Up}
use Rattle.dataplane.specs.Holding.{counted}
use Rattle.dataplane.specs.declared.counting.Counters.{Counters}

-- nothing was counted
abbrev pub no_counts : Counters
no_counts =
    record {
      lacpdus_received = 0;
      markers_received = 0;
      marker_responses_received = 0;
      unknown_received = 0;
      illegal_received = 0;
      lacpdus_sent = 0;
      markers_sent = 0;
      marker_responses_sent = 0;
    }

-- a subtype that is neither 1 (LACP) nor 2 (Marker protocol), and no illegal value: 0 and 11 to 255 are illegal (IEEE 802.3, Table 57A-3).
-- A frame with no such octet has none.
abbrev pub has_unknown_subtype : List ℕ → Bool
has_unknown_subtype frame = nat_le 3 (slice_index frame 14) && nat_le (slice_index frame 14) 10

-- addressed to the Slow_Protocols_Multicast address
abbrev pub is_to_slow_group : List ℕ → Bool
is_to_slow_group frame = nat_le 14 (length frame) && bytes_eq (take 6 frame) slow_group

-- UnknownRx: an unknown PDU, or addressed to the slow protocols, and of another EtherType
abbrev pub with_unknown : Counters → Counters
with_unknown c = record c { unknown_received = counted c.unknown_received 1 }

-- IllegalRx: a badly formed PDU, or an illegal value of the subtype
abbrev pub with_illegal : Counters → Counters
with_illegal c = record c { illegal_received = counted c.illegal_received 1 }

-- a frame of the slow protocols whose payload is refused
abbrev pub with_refused : List ℕ → Counters → Counters
with_refused frame c = if has_unknown_subtype frame then with_unknown c else with_illegal c

-- a frame of another EtherType
abbrev pub with_other : List ℕ → Counters → Counters
with_other frame c = if is_to_slow_group frame then with_unknown c else c

-- after a receive of a frame, by what became of it
abbrev pub counts_after_receive : List ℕ → Received → Counters → Counters
counts_after_receive frame Disabled c = c
counts_after_receive frame Dropped c = with_other frame c
counts_after_receive frame (Ignored fault) c = with_refused frame c
counts_after_receive frame TookLacpdu c = record c { lacpdus_received = counted c.lacpdus_received 1 }
counts_after_receive frame (Respond response) c = record c { markers_received = counted c.markers_received 1 }
counts_after_receive frame (Released count) c = record c { marker_responses_received = counted c.marker_responses_received 1 }
counts_after_receive frame (Up agg) c = with_other frame c

-- The frame is one of the slow protocols with this subtype, octet 14.
abbrev pub is_slow : List ℕ → ℕ → Bool
is_slow frame subtype = (slice_index frame 12 == 0x88) && ((slice_index frame 13 == 0x09) && (slice_index frame 14 == subtype))

-- a Marker PDU that was sent, by its TLV type: 1 in a marker, 2 in a response (6.5.3.3)
abbrev pub with_marker_sent : ℕ → Counters → Counters
with_marker_sent type c =
    if type == 1 then record c { markers_sent = counted c.markers_sent 1 }
    else if type == 2 then record c { marker_responses_sent = counted c.marker_responses_sent 1 }
    else c

-- after a frame was sent
abbrev pub counts_after_send : List ℕ → Counters → Counters
counts_after_send frame c =
    if is_slow frame 1 then record c { lacpdus_sent = counted c.lacpdus_sent 1 }
    else if is_slow frame 2 then with_marker_sent (slice_index frame 16) c
    else c
