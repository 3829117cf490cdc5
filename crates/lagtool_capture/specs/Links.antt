-- The links of a capture, and whether they carry data, by the last LACPDUs of their ends.
use Rattle.std.specs.Prelude.{◌==◌, ◌&&◌, ◌||◌, ◌*◌, ◌-◌, ℕ, Bool, false, true, not, List, Option, Some, None, find, is_none, is_some, nat_lt, nat_le, option_map, if◌then◌else◌}
use Rattle.std.specs.List.{fold}
use Rattle.std.specs.Option.{option_or}
use Rattle.std.specs.Str.{bytes_eq}
use Rattle.findings.specs.declared.slow_frame.LinkEnd.{LinkEnd}
use Rattle.findings.specs.Ends.{same_end}
use Rattle.findings.specs.Holds.{and_if}
use Rattle.lagtypes.specs.Same.{same_port, same_system}
use Rattle.lagtypes.specs.States.{bits_of}
use Rattle.lagtypes.specs.declared.identifiers.Key.{Key}
use Rattle.slowpdu.specs.declared.pdu.Info.{Info}
use Rattle.lagtool_capture.specs.declared.ends.LacpduSender.{LacpduSender}
use Rattle.lagtool_capture.specs.declared.links.Apart.{Apart}
use Rattle.lagtool_capture.specs.declared.links.Apart.TheVariants as as_apart
use Rattle.lagtool_capture.specs.declared.links.KeyApart.{KeyApart}
use Rattle.lagtool_capture.specs.declared.links.LastSent.{LastSent}
use Rattle.lagtool_capture.specs.declared.links.Link.{Link}
use Rattle.lagtool_capture.specs.declared.links.LinkCounts.{LinkCounts}
use Rattle.lagtool_capture.specs.declared.links.LinkState.{LinkState}
use Rattle.lagtool_capture.specs.declared.links.LinkState.TheVariants as is
use Rattle.lagtool_capture.specs.Counting.{one_more}
use Rattle.lagtool_capture.specs.Ends.{hears_partner, is_expired_on_defaults, longer}

-- ---- What is known of an end at last ----

abbrev pub last_sent : LacpduSender → LastSent
last_sent e = record {
  sender = e.sender;
  first = e.first;
  time = e.latest;
  partner = e.partner;
  lost = e.hearing.ended;
  expired = e.expired_on_defaults.began;
  lacpdu = e.last;
}

-- it hears its partner: neither Defaulted nor Expired (6.4.2.3)
abbrev pub hears : LastSent → Bool
hears s = hears_partner s.lacpdu

-- it collects and distributes, and hears its partner
abbrev pub is_up : LastSent → Bool
is_up s = hears s && ((bits_of s.lacpdu.actor.state).collecting && (bits_of s.lacpdu.actor.state).distributing)

-- one system and one port of it
abbrev pub same_actor : Info → Info → Bool
same_actor p a = same_system p.system a.system && same_port p.port a.port

-- it has the other end as its partner (6.4.2.3): a system and its port
abbrev pub has_as_partner : LastSent → LastSent → Bool
has_as_partner s x = same_actor s.lacpdu.partner x.lacpdu.actor

-- it had the other end as its partner when it last heard one
abbrev pub had_as_partner : LastSent → LastSent → Bool
had_as_partner s x = and_if (λ p. same_actor p x.lacpdu.actor) s.partner

-- so many nanoseconds
unfoldable pub nanoseconds : ℕ → ℕ
nanoseconds seconds = seconds * 1000000000

-- how long its partner waits (6.4.4): 3 seconds if it asks for short timeouts, else 90. The LACPDU of an end that is Expired
-- says so of its own accord (6.4.12).
abbrev pub awaited : LastSent → ℕ
awaited s = nanoseconds (if (bits_of s.lacpdu.partner.state).timeout && not (bits_of s.lacpdu.actor.state).expired then 3 else 90)

abbrev pub is_past : ℕ → Option ℕ → Option ℕ → Bool
is_past most (Some from) (Some to) = nat_le from to && nat_lt most (to - from)
is_past most (Some from) None = false
is_past most None to = false

-- it has to send: it is active, or its partner is, as it says (6.4.13)
abbrev pub is_periodic : LastSent → Bool
is_periodic s = (bits_of s.lacpdu.actor.state).activity || (bits_of s.lacpdu.partner.state).activity

-- it sends nothing more, as the capture goes on for longer than its partner waits
abbrev pub is_silent : Option ℕ → LastSent → Bool
is_silent until s = is_periodic s && is_past (awaited s) s.time until

-- the time of the last LACPDU of these ends, beside this one
abbrev pub until_from : Option ℕ → List LacpduSender → Option ℕ
until_from = fold (λ time x. longer time x.latest)

abbrev pub until_of : List LacpduSender → Option ℕ
until_of = until_from None

-- ---- Which ends make a link ----

-- their systems have one MAC address (6.3.2)
abbrev pub same_address : LastSent → LastSent → Bool
same_address e x = bytes_eq e.lacpdu.actor.system.mac x.lacpdu.actor.system.mac

-- it has said for more than 3 seconds that it is Defaulted and Expired at once; without LACPDUs it is Expired no more after 3
-- (6.4.12): LACPDUs come, and it records none
abbrev pub records_none : LastSent → Bool
records_none s = is_expired_on_defaults s.lacpdu && is_past (nanoseconds 3) s.expired s.time

-- two ends hear nobody; and one had the other as its partner, or their systems have one MAC address, and one of them records none
abbrev pub lost_each_other : LastSent → LastSent → Bool
lost_each_other e x =
    (not (hears e) && not (hears x))
    && ((had_as_partner e x || had_as_partner x e) || (same_address e x && (records_none e || records_none x)))

-- two ends are on one interface
abbrev pub share_interface : LastSent → LastSent → Bool
share_interface e x = (x.sender.interface == e.sender.interface) && not (same_end x.sender e.sender)

-- how much says that two ends on one interface make a link: 3 if each has the other as its partner (6.4.2.3), 2 if one has, 1 if
-- they lost each other, else 0
abbrev pub evidence : LastSent → LastSent → ℕ
evidence e x =
    if has_as_partner e x && has_as_partner x e then 3
    else if has_as_partner e x || has_as_partner x e then 2
    else if lost_each_other e x then 1
    else 0

abbrev pub evidence_there : LastSent → LastSent → ℕ
evidence_there e x = if share_interface e x then evidence e x else 0

-- more says that x is the other end of e than that y is, or as much, and x spoke later
abbrev pub is_likelier : LastSent → LastSent → LastSent → Bool
is_likelier e y x =
    nat_lt (evidence_there e y) (evidence_there e x)
    || ((evidence_there e y == evidence_there e x) && is_past 0 y.time x.time)

-- the likelier one of the other end so far and this one
abbrev pub far_after : LastSent → Option LastSent → LastSent → Option LastSent
far_after e None x = if nat_lt 0 (evidence_there e x) then Some x else None
far_after e (Some y) x = if is_likelier e y x then Some x else Some y

abbrev pub far_from : LastSent → Option LastSent → List LacpduSender → Option LastSent
far_from e = fold (λ y x. far_after e y (last_sent x))

-- the other end of its link: the likeliest of these
abbrev pub far_end : List LacpduSender → LastSent → Option LastSent
far_end es e = far_from e None es

-- the first of these ends that is one of the two is the first one
abbrev pub is_before : List LacpduSender → LinkEnd → LinkEnd → Bool
is_before es s t = and_if (λ x. same_end x.sender s) (find (λ x. same_end x.sender s || same_end x.sender t) es)

-- the link of an end (e) and its other end (x), which has y as its other end, is not told at e: if y is e, it is told at x if that is
-- the first of both in the capture; if y is another one, it is not told if y began when e sent no more
abbrev pub is_told_at : List LacpduSender → LastSent → LastSent → Option LastSent → Bool
is_told_at all e x None = false
is_told_at all e x (Some y) = if same_end y.sender e.sender then is_before all x.sender e.sender else is_past 0 e.time y.first

abbrev pub is_told_beside : List LacpduSender → LastSent → Option LastSent → Bool
is_told_beside all e = and_if (λ x. is_told_at all e x (far_end all x))

abbrev pub is_told : List LacpduSender → LastSent → Bool
is_told all e = is_told_beside all e (far_end all e)

-- ---- Keys within two systems (6.3.6) ----

-- another link of these two systems, as an end of it says that is up
abbrev pub is_other_link : Info → Info → LacpduSender → Bool
is_other_link near far x =
    (same_system x.last.actor.system near.system && same_system x.last.partner.system far.system)
    && (not (same_port x.last.actor.port near.port) && is_up (last_sent x))

-- there the near system has the same key, and the far one another
abbrev pub is_apart : Info → Info → LacpduSender → Bool
is_apart near far x = is_other_link near far x && ((x.last.actor.key.0 == near.key.0) && not (x.last.partner.key.0 == far.key.0))

-- the key of the far system on the first such link
abbrev pub key_apart : List LacpduSender → Info → Info → Option Key
key_apart all near far = option_map (λ x. x.last.partner.key) (find (is_apart near far) all)

-- of two ends the one that alone is individual (6.4.2.3, Aggregation)
abbrev pub individual : LastSent → LastSent → Option LinkEnd
individual near far =
    let a = bits_of near.lacpdu.actor.state in
    let b = bits_of far.lacpdu.actor.state in
    if not a.aggregation && b.aggregation then Some near.sender
    else if a.aggregation && not b.aggregation then Some far.sender
    else None

-- there is another link of these two systems that is up
abbrev pub has_other_link : List LacpduSender → Info → Info → Bool
has_other_link all near far = is_some (find (λ x. is_other_link near far x || is_other_link far near x) all)

abbrev pub apart_at : LastSent → Option Key → Option KeyApart
apart_at s = option_map (λ there. record { end = s.sender; here = s.lacpdu.actor.key; there = there })

-- an end of a link with another key than on another link, where the other system has one key on both
abbrev pub keys_apart : List LacpduSender → LastSent → LastSent → Option KeyApart
keys_apart all near far =
    option_or (apart_at far (key_apart all near.lacpdu.actor far.lacpdu.actor))
    (apart_at near (key_apart all far.lacpdu.actor near.lacpdu.actor))

-- why a link is no part of a group with others that are up: a key, or an end that is individual
abbrev pub apart_by : Option KeyApart → Bool → Option LinkEnd → Option Apart
apart_by (Some k) others single = Some (as_apart.Key k)
apart_by None others single = if others then option_map as_apart.Individual single else None

abbrev pub apart_of : List LacpduSender → LastSent → LastSent → Option Apart
apart_of all near far =
    apart_by (keys_apart all near far) (has_other_link all near.lacpdu.actor far.lacpdu.actor) (individual near far)

-- ---- Whether a link carries, and why not: what holds first ----

abbrev pub carrying : Option Apart → LinkState
carrying None = is.Carries
carrying (Some a) = is.CarriesApart a

abbrev pub single_or_waiting : Option LinkEnd → LinkState
single_or_waiting None = is.Waiting
single_or_waiting (Some s) = is.OtherGroup (as_apart.Individual s)

-- one end alone has not attached the link (Synchronization), or is individual
abbrev pub waiting : LastSent → LastSent → LinkState
waiting near far =
    let a = bits_of near.lacpdu.actor.state in
    let b = bits_of far.lacpdu.actor.state in
    if not a.synchronization && b.synchronization then is.Unattached near.sender
    else if a.synchronization && not b.synchronization then is.Unattached far.sender
    else single_or_waiting (individual near far)

abbrev pub agreed : Option Apart → LastSent → LastSent → LinkState
agreed None near far = waiting near far
agreed (Some a) near far = is.OtherGroup a

abbrev pub partnered : Option Apart → LastSent → LastSent → LinkState
partnered a near far =
    if not (has_as_partner near far) then is.OtherPartner near.sender
    else if not (has_as_partner far near) then is.OtherPartner far.sender
    else agreed a near far

-- an end that hears nobody lost the other one before that lost it: it never heard anybody, and the other one has; or it lost its
-- partner more than 2 seconds earlier
abbrev pub lost_before : LastSent → LastSent → Bool
lost_before s x = (is_none s.partner && is_some x.partner) || is_past (nanoseconds 2) s.lost x.lost

-- both hear nobody: the first that did
abbrev pub deaf : LastSent → LastSent → LinkState
deaf near far =
    if lost_before near far then is.HearsNobody near.sender
    else if lost_before far near then is.HearsNobody far.sender
    else is.BothDeaf

abbrev pub idle : Option Apart → LastSent → LastSent → LinkState
idle a near far =
    if not (hears near) && not (hears far) then deaf near far
    else if not (hears near) then is.HearsNobody near.sender
    else if not (hears far) then is.HearsNobody far.sender
    else partnered a near far

abbrev pub speaking : Option Apart → LastSent → LastSent → LinkState
speaking a near far =
    if (is_up near && is_up far) && (has_as_partner near far && has_as_partner far near) then carrying a else idle a near far

abbrev pub is_passive : LastSent → Bool
is_passive s = not (bits_of s.lacpdu.actor.state).activity

-- both ends have one system (6.3.2), or its MAC address and an end that hears nobody
abbrev pub is_own_system : LastSent → LastSent → Bool
is_own_system near far =
    same_system near.lacpdu.actor.system far.lacpdu.actor.system || (same_address near far && not (hears near && hears far))

-- of a link with both ends
abbrev pub of_both : List LacpduSender → Option ℕ → LastSent → LastSent → LinkState
of_both all until near far =
    if is_own_system near far then is.OneSystem
    else if is_passive near && is_passive far then is.BothPassive
    else if is_silent until near && is_silent until far then is.Quiet
    else if is_silent until near then is.Silent near
    else if is_silent until far then is.Silent far
    else speaking (apart_of all near far) near far

-- of a link with one end in the capture
abbrev pub of_one : Option ℕ → LastSent → LinkState
of_one until near =
    if same_system near.lacpdu.actor.system near.lacpdu.partner.system then is.OneSystem
    else if is_silent until near then is.Silent near
    else if hears near then is.Alone
    else if is_passive near then is.PassiveAlone
    else is.Unanswered

abbrev pub state_of : List LacpduSender → Option ℕ → LastSent → Option LastSent → LinkState
state_of all until near None = of_one until near
state_of all until near (Some far) = of_both all until near far

-- ---- The links of a capture ----

abbrev pub link_from : List LacpduSender → Option ℕ → LastSent → Option LastSent → Link
link_from all until near far = record { near = near; far = far; state = state_of all until near far }

-- the link of an end, unless it is told at its other end, or not told
unfoldable pub link_of : List LacpduSender → Option ℕ → LacpduSender → Option Link
link_of all until e = if is_told all (last_sent e) then None else Some (link_from all until (last_sent e) (far_end all (last_sent e)))

-- whether it carries; nothing is known of a link whose other end is not in the capture, unless it is silent or names its own system
abbrev pub carries : LinkState → Option Bool
carries is.Carries = Some true
carries (is.CarriesApart k) = Some true
carries is.Alone = None
carries is.Unanswered = None
carries is.PassiveAlone = None
carries x = Some false

abbrev pub is_true : Option Bool → Bool
is_true = and_if (λ b. b)

abbrev pub no_links : LinkCounts
no_links = record { links = 0; carrying = 0 }

-- with one link more, if there is one
abbrev pub with_link : Option Link → LinkCounts → LinkCounts
with_link None c = c
with_link (Some l) c = record { links = one_more c.links; carrying = if is_true (carries l.state) then one_more c.carrying else c.carrying }

abbrev pub far_sender : Option LastSent → Option LinkEnd
far_sender = option_map (λ x. x.sender)

abbrev pub counted_from : LinkCounts → List LacpduSender → Option ℕ → List LacpduSender → LinkCounts
counted_from c all until = fold (λ d e. with_link (link_of all until e) d) c

-- how many links there are, and how many of them carry
abbrev pub link_counts : List LacpduSender → LinkCounts
link_counts all = counted_from no_links all (until_of all) all
