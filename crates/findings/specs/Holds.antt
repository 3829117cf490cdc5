-- Each rule: whether the latest frame of an end shows it, by the frames of that end before it, the latest of them first.
use Rattle.std.specs.Prelude.{is_none, ◌==◌, ◌&&◌, ◌||◌, ◌-◌, ◌*◌, ◌%◌, get_or, ℕ, Bool, true, false, not, nat_lt, List, [], ◌∷◌, Option, Some, None, slice_get, unwrap_or, if◌then◌else◌}
use Rattle.std.specs.Str.{bytes_eq}
use Rattle.lagtypes.specs.declared.state.StateBits.{StateBits}
use Rattle.lagtypes.specs.Same.{same_port, same_system}
use Rattle.lagtypes.specs.States.{bits_of}
use Rattle.findings.specs.declared.recent.Heard.{Heard}
use Rattle.findings.specs.declared.others.Other.{Other}
use Rattle.findings.specs.declared.slow_frame.SlowFrame.{SlowFrame}
use Rattle.findings.specs.declared.slow_frame.What.{What}
use Rattle.findings.specs.declared.slow_frame.What.TheVariants.{Lacpdu, Marker, Refused}
use Rattle.findings.specs.Ends.{may_aggregate, mixes_keys}

-- the nanoseconds of so many seconds
abbrev pub seconds : ℕ → ℕ
seconds n = n * 1000000000

-- what the sender of an LACPDU says of itself
abbrev pub actor : Heard → StateBits
actor a = bits_of a.pdu.actor.state

-- what it says of its partner
abbrev pub partner : Heard → StateBits
partner a = bits_of a.pdu.partner.state

-- the test of a value; false where there is none
abbrev pub and_if : {A : Type 0} → (A → Bool) → Option A → Bool
and_if f None = false
and_if f (Some x) = f x

-- the capture has a time for both, and the first is not later than the second: a clock can step back
abbrev pub is_ordered : ℕ → ℕ → Bool
is_ordered t u = nat_lt 0 t && not (nat_lt u t)

-- so much time has gone from one to the other, and more
abbrev pub is_over : ℕ → ℕ → ℕ → Bool
is_over n t u = is_ordered t u && nat_lt n (u - t)

-- the capture has a time for both, and they are less than a second apart, whichever is the later one
abbrev pub is_near : ℕ → ℕ → Bool
is_near t u = nat_lt 0 t && (nat_lt 0 u && (nat_lt (t - u) (seconds 1) && nat_lt (u - t) (seconds 1)))

-- no two of these four LACPDUs are a second apart, or more: in a merged capture packets may stand out of the order of their times
abbrev pub are_in_a_second : Heard → Heard → Heard → Heard → Bool
are_in_a_second a b c d =
    is_near a.nanoseconds b.nanoseconds
    && (is_near a.nanoseconds c.nanoseconds
    && (is_near a.nanoseconds d.nanoseconds
    && (is_near b.nanoseconds c.nanoseconds && (is_near b.nanoseconds d.nanoseconds && is_near c.nanoseconds d.nanoseconds))))

-- More than three in a second (6.4.16): it and the three before it were sent in less than a second.
abbrev pub is_rushed : Heard → List Heard → Bool
is_rushed a before =
    and_if (λ b. and_if (λ c. and_if (are_in_a_second a b c) (slice_get before 2)) (slice_get before 1)) (slice_get before 0)

-- Both ends are passive (6.4.13): the sender is, and an LACPDU told it that its partner is.
abbrev pub is_passive : Heard → List Heard → Bool
is_passive a before = not (actor a).activity && not (partner a).activity && not (actor a).defaulted

-- the timeout that the partner asks for, as the sender has recorded it (6.4.4); behind Expired comes Defaulted, without an LACPDU,
-- and Defaulted may record a long one (6.4.12)
abbrev pub timeout : Heard → ℕ
timeout a = if (partner a).timeout && not (actor a).expired then seconds 3 else seconds 90

-- it sends LACPDUs periodically: one of the two ends is active (6.4.13)
abbrev pub is_periodic : Heard → Bool
is_periodic a = (actor a).activity || (partner a).activity

-- No LACPDU for longer than the timeout that the partner asks for (6.4.4, 6.4.13).
abbrev pub is_late : Heard → List Heard → Bool
is_late a before = and_if (λ b. is_periodic b && is_over (timeout b) b.nanoseconds a.nanoseconds) (slice_get before 0)

-- when the first was sent of those LACPDUs that have a property and come one after the other, up to the latest
abbrev pub since : (Heard → Bool) → List Heard → Option ℕ
since has [] = None
since has (a ∷ before) = if has a then Some (unwrap_or (since has before) a.nanoseconds) else None

-- they have had it for longer than this
abbrev pub lasts : (Heard → Bool) → ℕ → Heard → List Heard → Bool
lasts has n a before = has a && and_if (λ t. is_over n t a.nanoseconds) (since has before)

-- the sender has no current information of its partner
abbrev pub is_unheard : Heard → Bool
is_unheard a = (actor a).defaulted || (actor a).expired

-- the sender distributes, and its partner does not collect, as it has recorded
abbrev pub is_discarded : Heard → Bool
is_discarded a = (actor a).distributing && not (partner a).collecting

-- the sender's information of its partner is current
abbrev pub is_current : Heard → Bool
is_current a = not (is_unheard a)

-- the sender is ATTACHED, and its partner is not synchronized, as it has recorded (6.4.15)
abbrev pub is_attached : Heard → Bool
is_attached a = is_current a && (actor a).synchronization && not (actor a).collecting && not (partner a).synchronization

-- the sender's information of its partner was current, and is not any more
abbrev pub is_relapse : Heard → List Heard → Bool
is_relapse a before = is_unheard a && and_if is_current (slice_get before 0)

-- that has happened
abbrev pub has_relapsed : List Heard → Bool
has_relapsed [] = false
has_relapsed (a ∷ before) = is_relapse a before || has_relapsed before

-- Defaulted or Expired again and again (6.4.12): for the second time behind current information.
abbrev pub is_relapsing : Heard → List Heard → Bool
is_relapsing a before = is_relapse a before && has_relapsed before

-- it names its own system and port: its LACPDUs come back
abbrev pub hears_itself : Heard → Bool
hears_itself a = same_system a.pdu.partner.system a.pdu.actor.system && same_port a.pdu.partner.port a.pdu.actor.port

-- no LACPDU of another end has come on the interface since the sender's first, nor its own
abbrev pub is_alone : Heard → Bool
is_alone a = is_none a.others.facing && not (hears_itself a)

-- the same, and the sender asks for Short Timeout (6.4.4)
abbrev pub is_alone_short : Heard → Bool
is_alone_short a = is_alone a && (actor a).timeout

-- LACPDUs in one direction only so far (6.4.4, 6.4.12): for longer than the timeout that the sender has asked for ever since.
abbrev pub is_one_way : Heard → List Heard → Bool
is_one_way a before = lasts is_alone_short (seconds 3) a before || lasts is_alone (seconds 90) a before

-- Synchronization lost (6.4.15): the last one had it.
abbrev pub is_desynchronized : Heard → List Heard → Bool
is_desynchronized a before = not (actor a).synchronization && and_if (λ b. (actor b).synchronization) (slice_get before 0)

-- One end is Individual (6.3.5): the sender, and its partner is not.
abbrev pub is_individual : Heard → List Heard → Bool
is_individual a before = not (actor a).aggregation && (partner a).aggregation && not (actor a).defaulted

-- the LACPDU of another end came at most a Long Timeout before
abbrev pub is_fresh : Heard → Other → Bool
is_fresh a x = is_ordered x.nanoseconds a.nanoseconds && not (nat_lt (seconds 90) (a.nanoseconds - x.nanoseconds))

-- the system is the one that it names
abbrev pub is_named_system : Heard → Other → Bool
is_named_system a x = same_system a.pdu.partner.system x.pdu.actor.system

-- this LACPDU has a property, and so has the one before it: one alone may have crossed an LACPDU that tells a change
abbrev pub twice : (Heard → Bool) → Heard → List Heard → Bool
twice has a before = has a && and_if has (slice_get before 0)

-- The partner that it names is not who answered in the last Long Timeout (6.4.9): another system.
abbrev pub has_other_system : Heard → Bool
has_other_system a = is_current a && and_if (λ x. is_fresh a x && not (is_named_system a x)) a.others.answer

-- The partner that it names is not who answered in the last Long Timeout (6.4.9): the system, and another port of it.
abbrev pub has_other_port : Heard → Bool
has_other_port a =
    is_current a && and_if (λ x. is_fresh a x && is_named_system a x && not (same_port a.pdu.partner.port x.pdu.actor.port)) a.others.answer

-- The partner that it names is not who answered in the last Long Timeout (6.4.9): the system and its port, with another key.
abbrev pub has_other_key : Heard → Bool
has_other_key a =
    is_current a
    && and_if (λ x. is_fresh a x && is_named_system a x && same_port a.pdu.partner.port x.pdu.actor.port && not (a.pdu.partner.key.0 == x.pdu.actor.key.0))
    a.others.answer

-- it is of the same pair of systems
abbrev pub is_sibling_of : Heard → Other → Bool
is_sibling_of a x = same_system a.pdu.actor.system x.pdu.actor.system && same_system a.pdu.partner.system x.pdu.partner.system

-- it names the same partner, a system and its port
abbrev pub names_partner_of : Heard → Other → Bool
names_partner_of a x = same_system a.pdu.partner.system x.pdu.partner.system && same_port a.pdu.partner.port x.pdu.partner.port

-- Keys differ within one pair of systems (6.3.6): another link of the pair has one of the two keys and not the other, by its latest
-- LACPDU, which came at most a Long Timeout before. Links of which both keys differ are of two groups at both ends.
abbrev pub has_other_keys : Heard → Bool
has_other_keys a =
    is_current a && and_if (λ x. is_fresh a x && is_sibling_of a x && mixes_keys a.pdu x.pdu) a.others.sibling

-- Two actors on one segment (6.4.9): another end has named the same partner, at most a Long Timeout ago.
abbrev pub has_rival : Heard → List Heard → Bool
has_rival a before =
    is_current a && and_if (λ x. names_partner_of a x && is_fresh a x) a.others.rival

-- A third system on the link (6.4.9): in the last Long Timeout the Partner's system has sent an LACPDU, and so has another one
-- that has named one of the two ends.
abbrev pub has_third : Heard → Bool
has_third a =
    is_current a
    && (and_if (λ x. is_fresh a x && is_named_system a x) a.others.named
    && and_if (λ x. is_fresh a x && not (is_named_system a x)) a.others.third)

-- it has the same system and key, and another Partner's system
abbrev pub parts_from : Heard → Other → Bool
parts_from a x =
    same_system a.pdu.actor.system x.pdu.actor.system
    && ((a.pdu.actor.key.0 == x.pdu.actor.key.0) && not (same_system a.pdu.partner.system x.pdu.partner.system))

-- Links of one system lead to two systems, and a LAG has one partner system (6.3.6, 6.4.14): the latest LACPDU of another port with
-- the same key names another system, and came at most a Long Timeout before; both ports may be aggregated.
abbrev pub is_split : Heard → Bool
is_split a =
    may_aggregate a.pdu && and_if (λ x. is_fresh a x && (parts_from a x && may_aggregate x.pdu)) a.others.fellow

-- The partner's system is the end's own (6.3.2), and a System Identifier is of one system: current information names it.
abbrev pub names_own_system : Heard → List Heard → Bool
names_own_system a before = is_current a && same_system a.pdu.partner.system a.pdu.actor.system

-- Aggregate_Wait_Time of 2 seconds, less the tolerance of a timer (6.4.4)
abbrev pub least_wait : ℕ
least_wait = 1750000000

-- it names the same partner as another one
abbrev pub names_as : Heard → Heard → Bool
names_as a b = same_system a.pdu.partner.system b.pdu.partner.system && same_port a.pdu.partner.port b.pdu.partner.port

-- the time of the latest LACPDU before this one at which the port can't have waited yet for the partner that this one names: the
-- one before names another, or it is this time; none where the clock steps back
abbrev pub no_wait_at : Heard → Option Heard → Option ℕ → Option ℕ
no_wait_at a None time = None
no_wait_at a (Some b) time =
    if is_ordered b.nanoseconds a.nanoseconds then (if names_as a b then time else Some b.nanoseconds) else None

-- the time of the latest LACPDU at which the port can't have waited yet for the partner that it names last: it is synchronized, or
-- names another
abbrev pub no_wait : List Heard → Option ℕ
no_wait [] = None
no_wait (a ∷ before) = if (actor a).synchronization then Some a.nanoseconds else no_wait_at a (slice_get before 0) (no_wait before)

-- it is synchronized, with the partner with which the one before is not
abbrev pub attaches : Heard → List Heard → Bool
attaches a before = (actor a).synchronization && not (and_if (λ b. (actor b).synchronization && names_as a b) (slice_get before 0))

-- A wait below Aggregate_Wait_Time before Synchronization (6.4.4, 6.4.15).
abbrev pub is_hasty : Heard → List Heard → Bool
is_hasty a before =
    is_current a && attaches a before
    && and_if (λ t. nat_lt (a.nanoseconds - t) least_wait) (no_wait_at a (slice_get before 0) (no_wait before))

-- it is an LACPDU, a marker or a response
abbrev pub is_read : What → Bool
is_read (Lacpdu v) = true
is_read (Marker m) = true
is_read (Refused e) = false

-- A version other than 1 (6.4.2.3, 6.5.3.3).
abbrev pub has_other_version : SlowFrame → List SlowFrame → Bool
has_other_version o before = is_read o.what && not (o.version == 1)

-- A length other than that of a header and 110 octets, with or without the frame check sequence (6.4.2.3, 6.5.3.3).
abbrev pub has_other_length : SlowFrame → List SlowFrame → Bool
has_other_length o before = not ((o.length == 124) || (o.length == 128))

-- A reserved octet that is not zero (6.4.2.3, 6.5.3.3).
abbrev pub has_reserved : SlowFrame → List SlowFrame → Bool
has_reserved o before = is_read o.what && o.reserved

-- the Slow_Protocols_Multicast address, 01-80-C2-00-00-02 (6.4.2.2)
abbrev pub slow_protocols : List ℕ
slow_protocols = 1 ∷ 128 ∷ 194 ∷ 0 ∷ 0 ∷ 2 ∷ []

-- A destination other than the Slow_Protocols_Multicast address (6.4.2.2, 6.5.3.2).
abbrev pub has_other_destination : SlowFrame → List SlowFrame → Bool
has_other_destination o before = and_if (λ d. not (bytes_eq d slow_protocols)) o.destination

-- A TLV type, or the type or length of a Terminator, that is another one (6.4.2.3, 6.5.3.3).
abbrev pub has_other_types : SlowFrame → List SlowFrame → Bool
has_other_types o before = is_read o.what && o.other_types

-- the address of a group: the first bit on the wire, the least significant one of the first octet, is 1 (6.4.2.2)
abbrev pub is_group : List ℕ → Bool
is_group mac = get_or mac 0 0 % 2 == 1

-- six octets of zero
abbrev pub no_address : List ℕ
no_address = 0 ∷ 0 ∷ 0 ∷ 0 ∷ 0 ∷ 0 ∷ []

-- A source address that is no individual one: a group's, or zero (6.4.2.2, 6.5.3.2).
abbrev pub has_other_source : SlowFrame → List SlowFrame → Bool
has_other_source o before = is_group o.source || bytes_eq o.source no_address

-- A tag (6.4.2.2, 6.5.3.2).
abbrev pub has_tag : SlowFrame → List SlowFrame → Bool
has_tag o before = nat_lt 0 o.tags

-- Silence up to this time, behind the latest LACPDU: longer than the timeout that the partner asks for (6.4.4, 6.4.13).
abbrev pub is_silent : ℕ → Heard → Bool
is_silent until a = is_periodic a && is_over (timeout a) a.nanoseconds until
