-- The records of a capture as JSON (RFC 8259), each an object in a line of its own. The texts that stand in quotation marks
-- have no quotation mark, no backslash and no control character.
use Rattle.std.specs.Prelude.{◌++◌, ℕ, Bool, List, [], ◌∷◌, Option, Some, None, codes, decimal, flat_map, if◌then◌else◌}
use Rattle.findings.specs.declared.finding.Finding.{Finding}
use Rattle.findings.specs.declared.finding.Shown.{Shown}
use Rattle.findings.specs.declared.slow_frame.LinkEnd.{LinkEnd}
use Rattle.findings.specs.declared.rule.Rule.{Rule}
use Rattle.findings.specs.Rules.{rule_advice, rule_clause, rule_name}
use Rattle.lagtypes.specs.Octet.{octet}
use Rattle.lagtypes.specs.Texts.{mac_text, port_text, system_text}
use Rattle.slowpdu.specs.declared.pdu.Info.{Info}
use Rattle.slowpdu.specs.Texts.{fault_text}
use Rattle.lagtool_capture.specs.declared.ends.LacpduSender.{LacpduSender}
use Rattle.lagtool_capture.specs.declared.ends.Phase.{Phase}
use Rattle.findings.specs.declared.slow_frame.SlowFrame.{SlowFrame}
use Rattle.lagtool_capture.specs.declared.line.WhatText.{WhatText}
use Rattle.lagtool_capture.specs.declared.line.WhatText.TheVariants as what
use Rattle.lagtool_capture.specs.declared.links.Link.{Link}
use Rattle.lagtool_capture.specs.declared.links.LinkState.{LinkState}
use Rattle.lagtool_capture.specs.declared.names.Identity.{Identity}
use Rattle.lagtool_capture.specs.Ends.{named_by}
use Rattle.lagtool_capture.specs.EndTexts.{tenths_text}
use Rattle.lagtool_capture.specs.FindingTexts.{number_text}
use Rattle.lagtool_capture.specs.Gaps.{median}
use Rattle.lagtool_capture.specs.Links.{carries, far_sender}
use Rattle.lagtool_capture.specs.LinkTexts.{state_text}
use Rattle.lagtool_capture.specs.Names.{identity_of}
use Rattle.lagtool_capture.specs.LineTexts.{marker_word, seconds_text, signed_seconds}

-- a string
abbrev pub quoted : List ℕ → List ℕ
quoted t = 34 ∷ (t ++ 34 ∷ [])

-- a member of an object: its name and its value
abbrev pub member : List ℕ → List ℕ → List ℕ
member name value = quoted name ++ 58 ∷ value

-- members, with a comma between two
abbrev pub members : List (List ℕ) → List ℕ
members [] = []
members (m ∷ []) = m
members (m ∷ n ∷ ms) = m ++ 44 ∷ members (n ∷ ms)

-- an object with these members
abbrev pub object : List (List ℕ) → List ℕ
object ms = 123 ∷ (members ms ++ 125 ∷ [])

-- the seconds from the first time to another; null if one of the times is not known
abbrev pub since_value : Option ℕ → Option ℕ → List ℕ
since_value (Some first) (Some time) = signed_seconds first time
since_value (Some first) None = codes "null"
since_value None time = codes "null"

-- a time between two frames in seconds; null if it is not known
abbrev pub gap_value : Option ℕ → List ℕ
gap_value (Some gap) = seconds_text gap
gap_value None = codes "null"

-- a port number; null if there is none
abbrev pub port_value : Option ℕ → List ℕ
port_value (Some port) = decimal port
port_value None = codes "null"

-- a MAC address
abbrev pub mac_value : List ℕ → List ℕ
mac_value mac = quoted (mac_text mac)

-- a destination address; null if the capture does not keep it
abbrev pub destination_value : Option (List ℕ) → List ℕ
destination_value (Some mac) = mac_value mac
destination_value None = codes "null"

-- participant information (6.4.2.3)
unfoldable pub info_value : Info → List ℕ
info_value i =
    object (member (codes "system") (quoted (system_text i.system)) ∷ member (codes "key") (decimal i.key.0)
    ∷ member (codes "port") (quoted (port_text i.port)) ∷ member (codes "state") (decimal (octet i.state)) ∷ [])

-- what the record of a frame says of what is in it
abbrev pub what_members : WhatText → List (List ℕ)
what_members (what.Lacpdu t) =
    member (codes "kind") (quoted (codes "lacpdu")) ∷ member (codes "actor") (info_value t.lacpdu.actor)
    ∷ member (codes "partner") (info_value t.lacpdu.partner) ∷ member (codes "max_delay") (decimal t.lacpdu.max_delay) ∷ []
what_members (what.Marker m) =
    member (codes "kind") (quoted (marker_word m.kind)) ∷ member (codes "port") (decimal m.port)
    ∷ member (codes "system") (mac_value m.system) ∷ member (codes "id") (decimal m.id) ∷ []
what_members (what.Refused e) =
    member (codes "kind") (quoted (codes "refused")) ∷ member (codes "fault") (quoted (fault_text e)) ∷ []

-- what the record of a frame says of the frame: its number in the capture, its time, and its header
abbrev pub head_members : Option ℕ → Option ℕ → SlowFrame → List (List ℕ)
head_members first time e =
    member (codes "record") (quoted (codes "frame")) ∷ member (codes "packet") (decimal e.number)
    ∷ member (codes "seconds") (since_value first time) ∷ member (codes "interface") (decimal e.interface)
    ∷ member (codes "source") (mac_value e.source) ∷ member (codes "destination") (destination_value e.destination)
    ∷ member (codes "tags") (decimal e.tags) ∷ []

-- the record of a frame
unfoldable pub frame_record : Option ℕ → Option ℕ → SlowFrame → WhatText → List ℕ
frame_record first time e t =
    123 ∷ (members (head_members first time e) ++ 44 ∷ (members (what_members t) ++ codes "}\n"))

-- when a bit began and ended to be 1
unfoldable pub phase_value : Option ℕ → Phase → List ℕ
phase_value first p = object (member (codes "began") (since_value first p.began) ∷ member (codes "ended") (since_value first p.ended) ∷ [])

-- what the record of an end says of its sender, and how many LACPDUs there are
unfoldable pub sender_part : LacpduSender → List ℕ
sender_part e =
    members (member (codes "record") (quoted (codes "end")) ∷ member (codes "interface") (decimal e.sender.interface)
    ∷ member (codes "source") (mac_value e.sender.source) ∷ member (codes "port") (port_value e.sender.port)
    ∷ member (codes "lacpdus") (decimal e.count) ∷ [])

-- the identifiers by which an LACPDU names an end
unfoldable pub identity_value : Identity → List ℕ
identity_value a =
    object (member (codes "system") (quoted (system_text a.system)) ∷ member (codes "key") (decimal a.key.0)
    ∷ member (codes "port") (quoted (port_text a.port)) ∷ [])

-- an end of a link
unfoldable pub link_end_value : LinkEnd → List ℕ
link_end_value e =
    object (member (codes "interface") (decimal e.interface) ∷ member (codes "source") (mac_value e.source)
    ∷ member (codes "port") (port_value e.port) ∷ [])

-- another end; null if there is none
abbrev pub partner_value : Option LinkEnd → List ℕ
partner_value (Some e) = link_end_value e
partner_value None = codes "null"

-- who it is, the end that it named last, and the one that names it, among all ends
unfoldable pub parties_part : List LacpduSender → LacpduSender → List ℕ
parties_part all e =
    members (member (codes "identity") (identity_value (identity_of e.last.actor))
    ∷ member (codes "names") (identity_value (identity_of e.last.partner))
    ∷ member (codes "named_by") (partner_value (named_by all e)) ∷ [])

-- the median of times in tenths of a second; null if there is none
abbrev pub median_value : Option ℕ → List ℕ
median_value (Some tenths) = tenths_text tenths
median_value None = codes "null"

-- what it says of their times
unfoldable pub times_part : Option ℕ → LacpduSender → List ℕ
times_part first e =
    members (member (codes "first") (since_value first e.first) ∷ member (codes "last") (since_value first e.latest)
    ∷ member (codes "shortest") (gap_value e.shortest) ∷ member (codes "longest") (gap_value e.longest)
    ∷ member (codes "median") (median_value (median e.gaps)) ∷ [])

-- what it says of the bits of the actor's state
unfoldable pub phases_part : Option ℕ → LacpduSender → List ℕ
phases_part first e =
    members (member (codes "synchronized") (phase_value first e.synchronized)
    ∷ member (codes "collecting") (phase_value first e.collecting)
    ∷ member (codes "distributing") (phase_value first e.distributing) ∷ [])

-- the record of an end that sent LACPDUs, among all ends
unfoldable pub end_record : Option ℕ → List LacpduSender → LacpduSender → List ℕ
end_record first all e =
    123 ∷ (sender_part e ++ 44 ∷ (parties_part all e ++ 44 ∷ (times_part first e ++ 44 ∷ (phases_part first e ++ codes "}\n"))))

-- true, false, or null if it is not known
abbrev pub known_value : Option Bool → List ℕ
known_value (Some known) = if known then codes "true" else codes "false"
known_value None = codes "null"

-- what the record of a link says of its ends
unfoldable pub link_ends_part : Link → List ℕ
link_ends_part l =
    members (member (codes "record") (quoted (codes "link")) ∷ member (codes "end") (link_end_value l.near.sender)
    ∷ member (codes "partner") (partner_value (far_sender l.far)) ∷ [])

-- whether it carries, and why not
unfoldable pub link_state_part : Option ℕ → LinkState → List ℕ
link_state_part first x =
    members (member (codes "carries") (known_value (carries x)) ∷ member (codes "state") (quoted (state_text first x)) ∷ [])

-- the record of a link
unfoldable pub link_record : Option ℕ → Link → List ℕ
link_record first l = 123 ∷ (link_ends_part l ++ 44 ∷ (link_state_part first l.state ++ codes "}\n"))

-- the records of ends among all ends
abbrev pub ends_records : Option ℕ → List LacpduSender → List LacpduSender → List ℕ
ends_records first all ends = flat_map (end_record first all) ends

-- what the record of a finding says of its rule: its number and its name
unfoldable pub rule_part : Rule → List ℕ
rule_part rule =
    members (member (codes "record") (quoted (codes "finding")) ∷ member (codes "rule") (number_text rule)
    ∷ member (codes "name") (quoted (rule_name rule)) ∷ [])

-- the section that has the rule, and what to do
unfoldable pub advice_part : Rule → List ℕ
advice_part rule =
    members (member (codes "clause") (quoted (rule_clause rule)) ∷ member (codes "advice") (quoted (rule_advice rule)) ∷ [])

-- what it says of whom it is shown, and where
unfoldable pub shown_part : Option ℕ → LinkEnd → Shown → List ℕ
shown_part first end s =
    members (member (codes "end") (link_end_value end) ∷ member (codes "partner") (partner_value s.partner)
    ∷ member (codes "packet") (decimal s.number) ∷ member (codes "seconds") (since_value first (Some s.nanoseconds)) ∷ [])

-- the record of a finding
unfoldable pub finding_record : Option ℕ → Finding → List ℕ
finding_record first x =
    123 ∷ (rule_part x.rule ++ 44 ∷ (advice_part x.rule ++ 44 ∷ (shown_part first x.end x.shown ++ codes "}\n")))

-- the records of findings
abbrev pub findings_records : Option ℕ → List Finding → List ℕ
findings_records first xs = flat_map (finding_record first) xs

-- what the record of the counts says of packets: all of them, and the frames of the slow protocols
unfoldable pub packets_part : ℕ → ℕ → List ℕ
packets_part packets slow =
    members (member (codes "record") (quoted (codes "counts")) ∷ member (codes "packets") (decimal packets)
    ∷ member (codes "slow") (decimal slow) ∷ [])

-- what it says of ends, of findings, and of the LACPDUs of further ends
unfoldable pub told_part : ℕ → ℕ → ℕ → List ℕ
told_part ends findings beyond =
    members (member (codes "ends") (decimal ends) ∷ member (codes "findings") (decimal findings)
    ∷ member (codes "beyond") (decimal beyond) ∷ [])

-- the record of the counts
unfoldable pub counts_record : ℕ → ℕ → ℕ → ℕ → ℕ → List ℕ
counts_record packets slow ends findings beyond =
    123 ∷ (packets_part packets slow ++ 44 ∷ (told_part ends findings beyond ++ codes "}\n"))
