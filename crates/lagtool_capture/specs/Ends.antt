-- The ends of links, by the source address and the actor's port of the LACPDUs that they sent.
use Rattle.std.specs.Prelude.{◌==◌, ◌&&◌, ◌+◌, ◌-◌, ◌++◌, ℕ, Bool, false, not, List, [], ◌∷◌, Option, Some, None, length, nat_le, nat_lt, option_map, slice_get, slice_set, if◌then◌else◌}
use Rattle.std.specs.List.{cons_option}
use Rattle.slowpdu.specs.declared.pdu.Info.{Info}
use Rattle.slowpdu.specs.declared.pdu.Lacpdu.{Lacpdu}
use Rattle.findings.specs.declared.slow_frame.LinkEnd.{LinkEnd}
use Rattle.findings.specs.Ends.{same_end}
use Rattle.lagtypes.specs.Same.{same_port, same_system}
use Rattle.lagtypes.specs.States.{bits_of}
use Rattle.lagtool_capture.specs.declared.ends.LacpduSender.{LacpduSender}
use Rattle.lagtool_capture.specs.declared.ends.Phase.{Phase}
use Rattle.lagtool_capture.specs.Counting.{one_more}
use Rattle.lagtool_capture.specs.Gaps.{gaps_with, no_gaps}

-- the index of an end among these, the first of which has the index n
abbrev pub end_index_from : ℕ → List LacpduSender → LinkEnd → Option ℕ
end_index_from n [] s = None
end_index_from n (e ∷ es) s = if same_end e.sender s then Some n else end_index_from (n + 1) es s

-- the index of an end, from 0
abbrev pub end_index : List LacpduSender → LinkEnd → Option ℕ
end_index es s = end_index_from 0 es s

-- the last LACPDU of the end with this index
abbrev pub last_of : List LacpduSender → Option ℕ → Option Lacpdu
last_of es None = None
last_of es (Some n) = option_map (λ e. e.last) (slice_get es n)

-- the phase of a bit after the first LACPDU
abbrev pub first_phase : Bool → Option ℕ → Phase
first_phase is_set time = record { began = if is_set then time else None; ended = None }

-- the phase after one LACPDU more, by whether the bit was 1 in the last one, and is 1 in this one
abbrev pub next_phase : Bool → Bool → Option ℕ → Phase → Phase
next_phase was_set is_set time phase = record {
  began = if is_set && not was_set then time else phase.began;
  ended = if was_set && not is_set then time else phase.ended;
}

-- the time between two LACPDUs; None if the second is earlier, or one of the times is not known
abbrev pub gap_between : Option ℕ → Option ℕ → Option ℕ
gap_between (Some latest) (Some time) = if nat_le latest time then Some (time - latest) else None
gap_between (Some latest) None = None
gap_between None time = None

-- the shorter of two gaps, as far as they are known
abbrev pub shorter : Option ℕ → Option ℕ → Option ℕ
shorter (Some one) (Some other) = Some (if nat_lt other one then other else one)
shorter (Some one) None = Some one
shorter None other = other

-- the longer of two gaps, or the later of two times, as far as they are known
abbrev pub longer : Option ℕ → Option ℕ → Option ℕ
longer (Some one) (Some other) = Some (if nat_lt one other then other else one)
longer (Some one) None = Some one
longer None other = other

-- its sender hears its partner: it is neither Defaulted nor Expired (6.4.2.3)
abbrev pub hears_partner : Lacpdu → Bool
hears_partner v = not (bits_of v.actor.state).defaulted && not (bits_of v.actor.state).expired

-- its sender is Defaulted and Expired at once (6.4.2.3)
abbrev pub is_expired_on_defaults : Lacpdu → Bool
is_expired_on_defaults v = (bits_of v.actor.state).defaulted && (bits_of v.actor.state).expired

-- the partner that its sender has, or had when it last heard one
abbrev pub partner_after : Lacpdu → Option Info → Option Info
partner_after v before = if hears_partner v then Some v.partner else before

-- the end whose first LACPDU is this one
abbrev pub first_seen : LinkEnd → Option ℕ → Lacpdu → LacpduSender
first_seen s time v = record {
  sender = s;
  count = 1;
  first = time;
  latest = time;
  shortest = None;
  longest = None;
  gaps = no_gaps;
  synchronized = first_phase (bits_of v.actor.state).synchronization time;
  collecting = first_phase (bits_of v.actor.state).collecting time;
  distributing = first_phase (bits_of v.actor.state).distributing time;
  hearing = first_phase (hears_partner v) time;
  expired_on_defaults = first_phase (is_expired_on_defaults v) time;
  partner = partner_after v None;
  last = v;
}

-- the end after one LACPDU more
abbrev pub seen_again : Option ℕ → Lacpdu → LacpduSender → LacpduSender
seen_again time v e = record {
  sender = e.sender;
  count = one_more e.count;
  first = e.first;
  latest = time;
  shortest = shorter e.shortest (gap_between e.latest time);
  longest = longer e.longest (gap_between e.latest time);
  gaps = gaps_with (gap_between e.latest time) e.gaps;
  synchronized = next_phase (bits_of e.last.actor.state).synchronization (bits_of v.actor.state).synchronization time e.synchronized;
  collecting = next_phase (bits_of e.last.actor.state).collecting (bits_of v.actor.state).collecting time e.collecting;
  distributing = next_phase (bits_of e.last.actor.state).distributing (bits_of v.actor.state).distributing time e.distributing;
  hearing = next_phase (hears_partner e.last) (hears_partner v) time e.hearing;
  expired_on_defaults = next_phase (is_expired_on_defaults e.last) (is_expired_on_defaults v) time e.expired_on_defaults;
  partner = partner_after v e.partner;
  last = v;
}

-- an LACPDU, and its time if it is known
pub record Sent : Type 0 where
  pub time : Option ℕ
  pub lacpdu : Lacpdu

-- the end that sent these LACPDUs: the first of them, and the later ones, the latest first
abbrev pub end_of : LinkEnd → Sent → List Sent → LacpduSender
end_of s first [] = first_seen s first.time first.lacpdu
end_of s first (x ∷ later) = seen_again x.time x.lacpdu (end_of s first later)

-- the time of the latest of them
abbrev pub latest_time : Sent → List Sent → Option ℕ
latest_time first [] = first.time
latest_time first (x ∷ later) = x.time

-- the times between two of them that follow one another, as far as they are known
abbrev pub gaps_between : Sent → List Sent → List ℕ
gaps_between first [] = []
gaps_between first (x ∷ later) = cons_option (gap_between (latest_time first later) x.time) (gaps_between first later)

-- the most ends that are told of
abbrev pub most_ends : ℕ
most_ends = 64

-- the ends, if the one with this index is this one and it sends one LACPDU more
abbrev pub with_again : List LacpduSender → ℕ → Option ℕ → Lacpdu → Option LacpduSender → List LacpduSender
with_again es n time v None = es
with_again es n time v (Some e) = slice_set es n (seen_again time v e)

-- the ends after one LACPDU more of the sender whose end has this index; None if it has none yet
abbrev pub ends_after : List LacpduSender → Option ℕ → LinkEnd → Option ℕ → Lacpdu → List LacpduSender
ends_after es None s time v = if nat_lt (length es) most_ends then es ++ first_seen s time v ∷ [] else es
ends_after es (Some n) s time v = with_again es n time v (slice_get es n)

-- the LACPDU is of no end that is told of
abbrev pub is_beyond : List LacpduSender → Option ℕ → Bool
is_beyond es None = nat_le most_ends (length es)
is_beyond es (Some n) = false

-- an end (second one) names this one (6.4.2.3): on the same interface, its last Partner is this end's Actor, a system and its port
abbrev pub is_named_by : LacpduSender → LacpduSender → Bool
is_named_by e x =
    (x.sender.interface == e.sender.interface)
    && (same_system x.last.partner.system e.last.actor.system && same_port x.last.partner.port e.last.actor.port)

-- the first of these ends that names this one
abbrev pub named_by : List LacpduSender → LacpduSender → Option LinkEnd
named_by [] e = None
named_by (x ∷ xs) e = if is_named_by e x then Some x.sender else named_by xs e
